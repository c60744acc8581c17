-- The rules for a table stream, in order (ECMA-335 II.24.2.6). A rule applies only if all rules before it hold.
-- Each rule has a code, and the offset that is reported if it is broken.
use Rattle.std.specs.Prelude.{◌≡◌, ℕ, ◌<◌, ◌≤◌, Bool, List, [], ◌∷◌, ◌++◌, length, slice_index_or}
use Rattle.packed.specs.declared.code.FaultCode.TheVariants.{TablesHeader, TablesVersion, HeapSizes, UnknownTable, RowCounts, RowCount, TablesShort}
use Rattle.packed.specs.declared.fault.Fault.{Fault}
use Rattle.packed.specs.Rule.{Rule, rule, rules_from}
use Rattle.packed.specs.Offsets.{part}
use Rattle.table_schema.specs.declared.table.TableId.{TableId}
use Rattle.table_schema.specs.declared.table.TableId.TheVariants.{Module}
use Rattle.table_schema.specs.Tables.{tables}
use Rattle.schema.specs.Offsets.{tables_end}
use Rattle.schema.specs.LaidOut.{bits_of}
use Rattle.schema.specs.Header.{heap_sizes_of, valid_of, count_offset, count_in, sizes_of}

-- Valid sets bits of tables only
pub record NamesTables (valid : ℕ) : Type 0 where
  pub counted : TableId → Bool
  pub bits : valid ≡ bits_of counted tables

-- the rules for the fields before the row counts, and for the size of all row counts together
abbrev pub rules_of_header : List ℕ → List (Rule Fault)
rules_of_header stream =
    rule (24 ≤ length stream) TablesHeader 0
    ∷ rule (part stream 4 2 ≡ 2 ∷ 0 ∷ []) TablesVersion 4
    ∷ rule (heap_sizes_of stream < 8) HeapSizes 6
    ∷ rule (NamesTables (valid_of stream)) UnknownTable 8
    ∷ rule ((sizes_of stream).body ≤ length stream) RowCounts 24
    ∷ []

-- the rule for the row count of a table (II.22)
abbrev pub rules_of_count : List ℕ → TableId → List (Rule Fault)
rules_of_count stream table = rule (count_in stream table ≤ 0xFFFFFF) RowCount (count_offset (valid_of stream) table) ∷ []

-- the rule for the row count of the table with this table index
abbrev pub rules_of_count_at : List ℕ → ℕ → List (Rule Fault)
rules_of_count_at stream table_index = rules_of_count stream (slice_index_or tables table_index Module)

-- the rule for the tables: they end within the stream
abbrev pub rules_of_tables : List ℕ → List (Rule Fault)
rules_of_tables stream = rule (tables_end (sizes_of stream) ≤ length stream) TablesShort (sizes_of stream).body ∷ []

-- the rules for the whole stream: its header, each row count, and the tables
abbrev pub rules_of_stream : List ℕ → List (Rule Fault)
rules_of_stream stream = rules_of_header stream ++ (rules_from (rules_of_count_at stream) 0 38 ++ rules_of_tables stream)
