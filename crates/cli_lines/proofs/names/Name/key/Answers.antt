use Rattle.cli_lines.specs.Names.{cell_names, key_text}
use Rattle.cli_lines.proofs.NameLemmas.{text_at}
use Rattle.cli_lines.proofs.names.Name.key.Goals as goal

pub returns-in-Some : goal.returns-in-Some
returns-in-Some c =
    let lookup = c.in-Some.ensures.lookup in
    rw c.in-Cell.is
    (text_at (λ text. text.now) key_text c.keys_of.result.cells.now (cell_names c.in-Cell.table) c.in-Cell.index c.in-Some.key.now c.keys_of.ensures.cells lookup.3.0 lookup.1)
