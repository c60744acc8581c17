-- Facts about the tables and their columns, by cases.
use Rattle.std.proofs.Common.{◌≡◌, ℕ, zero, suc, ◌<◌, ◌≤◌, List, length, get_or, refl, lit<, lit≤, arith, true, [], ◌∷◌, Some, inl, inr, subst, map, sym, ap, ◌∙◌, Bool, false, not, ltb, ◌&&◌, ◌||◌, Option, None, slice_get}
use Rattle.std.specs.List.{list_all, range_with_len}
use Rattle.std.proofs.lemmas.Bool.{and_parts, ltb-true}
use Rattle.std.proofs.lemmas.List.{get_or-map}
use Rattle.std.proofs.lemmas.List.FromFn.{get_or-range_with_len}
use Rattle.table_schema.specs.declared.table.TableId.{TableId}
use Rattle.table_schema.specs.declared.table.TableId.TheVariants.{Module}
use Rattle.table_schema.specs.Tables.{table_number, table_index_of, tables}
use Rattle.table_schema.specs.declared.coded.Coded.{Coded as TheCoded}
use Rattle.table_schema.specs.declared.column.Column.{Column}
use Rattle.table_schema.specs.declared.column.ColumnKind.{ColumnKind}
use Rattle.table_schema.specs.declared.column.ColumnKind.TheVariants.{U8, Row, Coded}
use Rattle.table_schema.specs.CodedIndexes.{tables_of}
use Rattle.table_schema.specs.Columns.{columns_of, column_at, key_of, col, IsReference, MayBeNull}

-- no table has more than nine columns
pub columns_few : (table : TableId) → length (columns_of table) ≤ 9
columns_few Module = lit≤ tt
columns_few _ = lit≤ tt

-- there are 38 tables
pub table_index_below : (table : TableId) → table_index_of table < 38
table_index_below Module = lit< tt
table_index_below _ = lit< tt

-- numbers of tables are below 45
pub number_below : (table : TableId) → table_number table < 45
number_below Module = lit< tt
number_below _ = lit< tt

-- each table is at its table index
pub table_at_index : (table : TableId) → get_or tables (table_index_of table) Module ≡ table
unfolding tables
table_at_index Module = refl
table_at_index _ = refl

-- there are 38 tables
pub length-tables : length tables ≡ 38
unfolding tables
length-tables = refl

table_indexes : map table_index_of tables ≡ range_with_len 0 38
unfolding tables
table_indexes = refl

-- the table at a table index has this index
pub table_index_at : (p : ℕ) → p < 38 → table_index_of (get_or tables p Module) ≡ p
table_index_at p h =
    sym (get_or-map table_index_of tables p Module 0 (omega (arith, length-tables))) ∙ ap (λ (l : List ℕ). get_or l p 0) table_indexes ∙ get_or-range_with_len 0 38 p 0 h ∙ omega arith

-- ---- keys, by a test of each table

abbrev refers : ColumnKind → Bool
refers (Row table) = true
refers (Coded coded) = true
refers _ = false

abbrev key_test : TableId → Option ℕ → Bool
key_test table None = true
key_test table (Some column) = ltb column (length (columns_of table)) && refers (column_at table column).kind

key_tested : (table : TableId) → key_test table (key_of table) ≡ true
key_tested Module = refl
key_tested _ = refl

key_parts : (table : TableId) (column : ℕ) → key_of table ≡ Some column → (ltb column (length (columns_of table)) ≡ true) × (refers (column_at table column).kind ≡ true)
key_parts table column e = and_parts (ltb column (length (columns_of table))) (refers (column_at table column).kind) (subst (λ (k : Option ℕ). key_test table k ≡ true) e (key_tested table))

-- a key is a column of its table
pub key_within : (table : TableId) (column : ℕ) → key_of table ≡ Some column → column < length (columns_of table)
key_within table column e = ltb-true column (length (columns_of table)) (key_parts table column e).0

-- a key refers to rows
pub key_reference : (table : TableId) (column : ℕ) → key_of table ≡ Some column → IsReference (column_at table column)
key_reference table column e = by_kind (column_at table column) (column_at table column).kind refl (key_parts table column e).1
  where
    by_kind : (column : Column) (kind : ColumnKind) → column.kind ≡ kind → refers kind ≡ true → IsReference column
    by_kind column (Row table) is e = inl (table, is)
    by_kind column (Coded coded) is e = inr (coded, is)
    by_kind column _ is e = absurd cc

-- ---- the columns that allow null have a number for null

abbrev first_used : Option (Option TableId) → Bool
first_used (Some (Some table)) = true
first_used _ = false

abbrev null_test : ColumnKind → Bool
null_test (Coded coded) = first_used (slice_get (tables_of coded) 0)
null_test _ = false

nulls_tested : (table : TableId) → list_all (λ column. not column.nullable || null_test column.kind) (columns_of table) ≡ true
nulls_tested Module = refl
nulls_tested _ = refl

first_is : (column : Column) (coded : TheCoded) (o : Option (Option TableId)) → column.kind ≡ Coded coded → slice_get (tables_of coded) 0 ≡ o → first_used o ≡ true → MayBeNull column
first_is column coded (Some (Some table)) is e h = record { coded = coded; first = table; is = is; used = e }
first_is column coded _ is e h = absurd cc

may : (column : Column) (kind : ColumnKind) → column.kind ≡ kind → null_test kind ≡ true → MayBeNull column
may column (Coded coded) is h = first_is column coded (slice_get (tables_of coded) 0) is refl h
may column _ is h = absurd cc

null_at : (columns : List Column) (i : ℕ) (none : Column) → list_all (λ column. not column.nullable || null_test column.kind) columns ≡ true → i < length columns
    → (get_or columns i none).nullable ≡ true → MayBeNull (get_or columns i none)
null_at [] i none all below e = absurd (omega arith)
null_at (column ∷ columns) zero none all below e =
    let tested : (not column.nullable || null_test column.kind) ≡ true = (and_parts (not column.nullable || null_test column.kind) (list_all (λ c. not c.nullable || null_test c.kind) columns) all).0 in
    may column column.kind refl (rw e at tested)
null_at (column ∷ columns) (suc i) none all below e = null_at columns i none (and_parts (not column.nullable || null_test column.kind) (list_all (λ c. not c.nullable || null_test c.kind) columns) all).1 (omega arith) e

pub may_be_null : (table : TableId) (column : ℕ) → column < length (columns_of table) → (column_at table column).nullable ≡ true → MayBeNull (column_at table column)
may_be_null table column below e = null_at (columns_of table) column (col U8) (nulls_tested table) below e
