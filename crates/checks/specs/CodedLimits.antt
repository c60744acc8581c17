-- Limits of the rows that coded indexes may name, by tag (ECMA-335 II.24.2.6).
use Rattle.std.specs.Prelude.{◌≡◌, ◌≢◌, ℕ, ◌+◌, List, Some, slice_get, slice_index}
use Rattle.table_schema.specs.declared.table.TableId.{TableId}
use Rattle.table_schema.specs.declared.coded.Coded.{Coded}
use Rattle.table_schema.specs.CodedIndexes.{tables_of}
use Rattle.metadata.specs.Source.{Source, rows_in}

-- the limit is one more than the last row of the tag's table
pub record IsLimit (source : Source) (coded : Coded) (tag limit : ℕ) : Type 0 where
  pub table : TableId
  pub listed : slice_get (tables_of coded) tag ≡ Some (Some table)
  pub rows : limit ≡ rows_in source table + 1

-- each limit that is not 0 is that of its tag
pub record AreLimits (source : Source) (coded : Coded) (limits : List ℕ) : Type 0 where
  pub each : (tag : ℕ) → slice_index limits tag ≢ 0 → IsLimit source coded tag (slice_index limits tag)
