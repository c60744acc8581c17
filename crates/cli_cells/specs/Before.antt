-- What `clim show --until-fault` prints of bytes that break a rule: the rows before the first broken one (ECMA-335 II.22).
use Rattle.std.specs.Prelude.{◌≡◌, ℕ, ◌⊎◌, List, [], flat_map, Option}
use Rattle.cli_cells.specs.Words.{AllHold, TableId, Source, IsFirstBroken, BrokenRow, rules_before, source_in, Part}
use Rattle.cli_files.specs.declared.opened.Input.{Input}
use Rattle.cli_cells.specs.MetRows.{rows_before}
use Rattle.cli_cells.specs.RowLines.{first_lines}
use Rattle.cli_cells.specs.Shown.{content_at}
use Rattle.cli_cells.specs.declared.row_lines.Names.{Names}

-- the rows of these tables before a broken row
abbrev pub lines_before : Names → Source → Option BrokenRow → List TableId → List (List Part)
lines_before names source broken tables = flat_map (λ table. first_lines names (content_at source) table (rows_before source broken table)) tables

-- these are the rows of tables before the first row that breaks a rule for cells; no rows if a rule before those for cells is broken
abbrev pub AreLinesBefore : Names → Input → List ℕ → List TableId → List (List Part) → Type 0
AreLinesBefore names input bytes tables lines =
    (AllHold (rules_before input bytes) × (broken : Option BrokenRow) × IsFirstBroken (source_in input bytes) broken
    × (lines ≡ lines_before names (source_in input bytes).source broken tables))
    ⊎ ((¬ AllHold (rules_before input bytes)) × (lines ≡ []))
