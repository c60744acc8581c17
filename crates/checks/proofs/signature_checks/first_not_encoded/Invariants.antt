use Rattle.checks.proofs.Prelude.{◌≡◌, ℕ, ◌-◌, ◌≤◌, ◌<◌, length, Ok, number_of, Takes, IsEncoded, Keeps, blob_length, walk_over, number_after}
use Rattle.table_schema.specs.declared.column.ColumnKind.TheVariants as kind
use Rattle.checks.proofs.signature_checks.first_not_encoded.Given as goal

abbrev pub invariant-loop-row : goal.invariant-loop-row
invariant-loop-row l = record {
  before : (row : ℕ) → 1 ≤ row → row < l.row
      → IsEncoded l.source.source (kind.Signature l.encoded) (number_of l.source.source l.fn.table row l.fn.column) (Ok tt);
  kept : (number : ℕ) → Keeps l.accepted number → IsEncoded l.source.source (kind.Signature l.encoded) number (Ok tt);
  walk : (l.accepted ≡ (walk_over (length l.source.source.blobs) (blob_length l.source.source.blobs) (number_after l.source.source l.fn.table l.fn.column) (l.row - 1)).slots)
      × Takes l.initial.budget l.budget
      (walk_over (length l.source.source.blobs) (blob_length l.source.source.blobs) (number_after l.source.source l.fn.table l.fn.column) (l.row - 1)).bytes;
}
