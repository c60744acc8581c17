use Rattle.std.proofs.Common.{◌≢◌, ◌<◌, ℕ, Some}
use Rattle.std.specs.List.{slice_get}
use Rattle.table_schema.specs.CodedIndexes.{tables_of}
use Rattle.table_schema.proofs.coded_index.tag_of.Given as goal

abbrev pub invariant-loop-tag : goal.invariant-loop-tag
invariant-loop-tag l = (k : ℕ) → k < l.tag → slice_get (tables_of l.fn.coded) k ≢ Some (Some l.table)
