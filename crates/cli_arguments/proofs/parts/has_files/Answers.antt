use Rattle.std.proofs.Common.{◌≡◌, ◌∙◌, None, Option, Some, ap, codes, is_some, option_map, refl, sym}
use Rattle.std.proofs.lemmas.List.{length-map}
use Rattle.cli_arguments.proofs.Prelude.{Bor, first_value-rows}
use Rattle.clap.specs.Words.{Text, found_of}
use Rattle.cli_arguments.proofs.parts.has_files.Goals as goal

same_some : (o : Option (Bor Text)) → is_some (option_map (λ word. word.now) o) ≡ is_some o
same_some None = refl
same_some (Some word) = refl

pub returns : goal.returns
returns c =
    let found = found_of c.args.given.now in
    let from = sym (same_some c.get_str.result) ∙ ap is_some (c.get_str.ensures ∙ first_value-rows found (codes "files-from")) in
    rw (← from, c.is_some.ensures, ← c.flag.ensures, c.is_empty.ensures, length-map c.args.words.now (λ (word : Bor Text). word.now)) refl
