use Rattle.cli_outline.proofs.Prelude.{◌∙◌, ◌∷◌, [], ap, string_bytes, declaration_line, unindented}
use Rattle.std.proofs.lemmas.Str.Ascii.{trim_ascii_start_is}
use Rattle.cli_outline.proofs.DeclarationLemmas.{line_printed, same_json}
use Rattle.cli_outline.proofs.line.print_named.Goals as goal

pub returns-in-Ok : goal.returns-in-Ok
returns-in-Ok g c = λ json tokens.
    let cut = trim_ascii_start_is c.deref.result.now c.trim_ascii_start-text.result.now c.trim_ascii_start-text.ensures.value ∙ ap unindented c.deref.ensures in
    line_printed json (same_json c.args.out.now.style.file tokens c.args.of c.args.class c.args.has_directive (string_bytes c.args.declared.now.text))
    (rw (c.in-Ok.ensures, cut) at c.print_json.ensures)

pub returns : goal.returns
returns g c = λ json tokens. c.fail.ensures.lines (declaration_line tokens c.args.of c.args.class c.args.has_directive (string_bytes c.args.declared.now.text) ∷ [])
