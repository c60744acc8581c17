use Rattle.cli.proofs.Prelude.{◌≢◌, ◌<◌, ℕ}
use Rattle.std.specs.Str.{str_to_ascii_lowercase}
use Rattle.cli_lines.specs.Names.{column_name}
use Rattle.cli.proofs.columns.column_named.Given as goal

-- no column before this one has the name
abbrev pub invariant-loop-cell_index : goal.invariant-loop-cell_index
invariant-loop-cell_index l = (index : ℕ) → index < l.cell_index → str_to_ascii_lowercase l.name ≢ str_to_ascii_lowercase (column_name l.table index)
