use Rattle.cli_lines.specs.Names.{cell_names, label_text}
use Rattle.cli_lines.proofs.NameLemmas.{text_at}
use Rattle.cli_lines.proofs.names.cell_label.Goals as goal

pub returns-in-Some : goal.returns-in-Some
returns-in-Some c =
    let lookup = c.in-Some.ensures.lookup in
    text_at (λ text. text.now) label_text c.keys_of.result.labels.now (cell_names c.args.table) c.args.index c.in-Some.label.now c.keys_of.ensures.labels lookup.3.0 lookup.1
