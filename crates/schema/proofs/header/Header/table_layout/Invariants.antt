use Rattle.schema.proofs.Prelude.{◌≡◌, ◌≤◌, ◌<◌, ◌*◌, ℕ, length, get_or, take, columns_width, sizes_kept}
use Rattle.schema.proofs.header.Header.table_layout.Given as goal

abbrev pub invariant-loop-index : goal.invariant-loop-index
invariant-loop-index l = record {
  width : l.row_width ≡ columns_width (sizes_kept l.self) (take l.index l.columns);
  room : length l.offsets ≡ 10;
  small : l.row_width ≤ 4 * l.index;
  offsets : (column : ℕ) → column < l.index → get_or l.offsets column 0 ≡ columns_width (sizes_kept l.self) (take column l.columns);
}
