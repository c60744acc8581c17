use Rattle.schema.proofs.Prelude.{◌≡◌, ℕ, ◌+◌, ◌*◌, ◌<◌, ◌≤◌, length, get_or, take, ltb, count_by, Module, table_number, tables, header_size}
use Rattle.schema.proofs.layout.Layout.of.Given as goal

abbrev pub invariant-loop-table_index : goal.invariant-loop-table_index
invariant-loop-table_index l = record {
  body : l.body ≡ header_size (count_by (λ table. ltb 0 (get_or l.counts (table_number table) 0)) (take l.table_index tables));
  small : l.body ≤ 24 + 4 * l.table_index;
  room : length l.listed ≡ 38;
  listed : (k : ℕ) → k < l.table_index → get_or l.listed k 0 ≡ get_or l.counts (table_number (get_or tables k Module)) 0;
}
