-- What a C caller receives if two models are compared (ECMA-335 II.22 and II.24.2).
use Rattle.std.specs.Prelude.{◌≡◌, List, [], ◌∷◌, take, Option, None, Some}
use Rattle.metadata.specs.Metadata.{Metadata}
use Rattle.comparison.specs.Differences.{first_differences}
use Rattle.comparison.specs.declared.difference.Difference.{Difference}
use Rattle.c_values.specs.declared.difference.ClimDifference.{ClimDifference}
use Rattle.c_values.specs.Differences.{ReportsDifference}

-- it is the first of these, or there is none
abbrev pub IsFirst : Option Difference → List Difference → Type 0
IsFirst None differences = differences ≡ []
IsFirst (Some difference) differences = take 1 differences ≡ difference ∷ []

-- the difference for C is the first of two models: of the version, the user strings, the row counts of the tables, and cells
abbrev pub ReportsFirst : Metadata → Metadata → ClimDifference → Type 0
ReportsFirst left right reported =
    (difference : Difference) × (take 1 (first_differences left right 1) ≡ difference ∷ []) × ReportsDifference reported difference
