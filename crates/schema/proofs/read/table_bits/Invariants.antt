use Rattle.schema.proofs.Prelude.{◌≡◌, ◌≤◌, ◌*◌, ◌^◌, take, tables, bits_of, has_bit}
use Rattle.schema.proofs.read.table_bits.Given as goal

abbrev pub invariant-loop-table : goal.invariant-loop-table
invariant-loop-table l = record {
  bits : l.bits ≡ bits_of (has_bit l.valid) (take l.table-index tables);
  low : l.bits ≤ l.table-index * 2 ^ 44;
}
