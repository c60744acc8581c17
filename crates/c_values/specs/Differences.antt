-- A difference of two models that a C caller receives.
use Rattle.std.specs.Prelude.{◌≡◌, ℕ}
use Rattle.table_schema.specs.Tables.{table_number}
use Rattle.comparison.specs.declared.difference.Difference.{Difference}
use Rattle.comparison.specs.declared.difference.Difference.TheVariants.{Version, UserStrings, RowCount, Cell}
use Rattle.c_values.specs.declared.difference.ClimDifference.{ClimDifference}

-- the difference for C has this kind, this table, this row and column, and these row counts
abbrev pub HasParts : ClimDifference → ℕ → ℕ → ℕ → ℕ → ℕ → ℕ → Type 0
HasParts reported kind table row column left right =
    (reported.kind ≡ kind) × (reported.table ≡ table) × (reported.row ≡ row) × (reported.column ≡ column)
    × (reported.left_count ≡ left) × (reported.right_count ≡ right)

-- the difference for C encodes the difference: its kind, and the fields that belong to the kind; the others are 0
abbrev pub ReportsDifference : ClimDifference → Difference → Type 0
ReportsDifference reported Version = HasParts reported 1 0 0 0 0 0
ReportsDifference reported UserStrings = HasParts reported 2 0 0 0 0 0
ReportsDifference reported (RowCount table left right) = HasParts reported 3 (table_number table) 0 0 left right
ReportsDifference reported (Cell table row column) = HasParts reported 4 (table_number table) row column 0 0
