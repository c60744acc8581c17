use Rattle.std.proofs.Common.{◌∙◌, [], List, Option, ap, map}
use Rattle.std.specs.Prelude.{unwrap_or}
use Rattle.cli_arguments.proofs.Prelude.{IfOk-weaker, Bor, raw_values-rows}
use Rattle.clap.specs.Words.{Text, found_of}
use Rattle.cli_arguments.proofs.arguments.list.Goals as goal

pub returns-in-Some : goal.returns-in-Some
returns-in-Some c =
    let read = ap (λ (q : Option (List Text)). unwrap_or q []) (c.get_raw.ensures ∙ raw_values-rows (found_of c.args.given.now) c.args.id.now) in
    IfOk-weaker c.from_slice.result _ _ (λ values copied. ap (λ (s : List (Bor Text)). map (λ word. word.now) s) copied ∙ rw c.in-Some.is at read)
    c.from_slice.ensures.items

pub returns-in-None : goal.returns-in-None
returns-in-None c =
    let read = ap (λ (q : Option (List Text)). unwrap_or q []) (c.get_raw.ensures ∙ raw_values-rows (found_of c.args.given.now) c.args.id.now) in
    ap (λ (s : List (Bor Text)). map (λ word. word.now) s) c.new.ensures.items ∙ rw c.in-None.is at read
