use Rattle.rows.proofs.Prelude.{◌≡◌, ◌+◌, ◌≤◌, ◌++◌, drop, vec_len, vec_capacity, columns_of, columns_width, row_bytes}
use Rattle.rows.proofs.put.put_row.Given as goal

-- what was written and the columns that are left make the whole row, and there is room for them
abbrev pub invariant-loop-column : goal.invariant-loop-column
invariant-loop-column l = record {
  whole : l.bytes.items ++ row_bytes l.layout (drop l.column (columns_of l.table)) (drop l.column l.numbers) ≡ l.fn.bytes.items ++ row_bytes l.layout (columns_of l.table) l.numbers;
  long : vec_len l.bytes + columns_width l.layout (drop l.column (columns_of l.table)) ≡ vec_len l.fn.bytes + columns_width l.layout (columns_of l.table);
  capacity : vec_capacity l.fn.bytes ≤ vec_capacity l.bytes;
  room : vec_len l.bytes + columns_width l.layout (drop l.column (columns_of l.table)) ≤ vec_capacity l.bytes;
}
