use Rattle.cli_outline.proofs.Prelude.{◌≡◌, ◌-◌, ◌≤◌, All, map, range_with_len, Metadata, IsModel, IsKeyed, key_limit, row_of_keyed}
use Rattle.cli_outline.proofs.orders.keyed_rows.Given as goal

-- the rows so far have their keys
abbrev pub invariant-loop-row : goal.invariant-loop-row
invariant-loop-row l = record {
  below : l.row - l.fn.rows.start ≤ l.fn.rows.«end» - l.fn.rows.start;
  rows : map row_of_keyed l.keyed.items ≡ range_with_len l.fn.rows.start (l.row - l.fn.rows.start);
  keys : (model : Metadata) → IsModel l.source.neighbours.view.now model → All (IsKeyed l.source.options model l.table (key_limit (l.fn.rows.«end» - l.fn.rows.start))) l.keyed.items;
}
