use Rattle.declarations.proofs.Prelude.{◌≡◌, ◌-◌, ◌≤◌, Param, Metadata, keyed_rows, position_in, All}
use Rattle.declarations.proofs.params.read_positions.Given as goal

-- the rows before this one are read
abbrev pub invariant-loop-row : goal.invariant-loop-row
invariant-loop-row g l = record {
  within : All (λ param. (1 ≤ param.row) × (param.row ≤ g.S.ReadMetadata.row_count l.source Param)) l.read.items;
  rows : (model : Metadata) → g.S.ReadMetadata.shows l.source model → l.read.items ≡ keyed_rows (position_in model) l.first (l.row - l.first);
}
