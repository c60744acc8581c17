-- The sizes of types by the rows of ClassLayout (ECMA-335 II.22.8).
use Rattle.std.specs.Prelude.{◌≡◌, ℕ, ◌-◌, ◌<◌, ◌≤◌, ◌⊎◌}
use Rattle.table_schema.specs.declared.table.TableId.TheVariants.{ClassLayout}
use Rattle.metadata.specs.Source.{Source, rows_in, number_of}
use Rattle.file_ranges.specs.declared.class_sizes.ClassSizes.{ClassSizes}
use Rattle.file_ranges.specs.declared.class_sizes.ClassSizes.TheVariants.{ByParent, Largest}

-- ClassSize in a row
abbrev pub class_size : Source → ℕ → ℕ
class_size source layout = number_of source ClassLayout layout 1

-- Parent in a row: the type, as a row of TypeDef
abbrev pub parent : Source → ℕ → ℕ
parent source layout = number_of source ClassLayout layout 2

-- Parents rise from row to row: the table is sorted by them (II.22), and a type has one row at most
abbrev pub AreParentsRising : Source → Type 0
AreParentsRising source = (layout : ℕ) → 2 ≤ layout → layout ≤ rows_in source ClassLayout → parent source (layout - 1) < parent source layout

-- A type may have the size in a row if it is the row's Parent. If Parents do not rise, it may have the size in any row.
pub record MayHaveLayout (source : Source) (row layout : ℕ) : Type 0 where
  pub first : 1 ≤ layout
  pub last : layout ≤ rows_in source ClassLayout
  pub type : (parent source layout ≡ row) ⊎ ¬ AreParentsRising source

-- the largest size that a type may have; 0 if it has none
pub record IsSizeOf (source : Source) (row size : ℕ) : Type 0 where
  pub most : (layout : ℕ) → MayHaveLayout source row layout → class_size source layout ≤ size
  pub some : (size ≡ 0) ⊎ ((layout : ℕ) × MayHaveLayout source row layout × (size ≡ class_size source layout))

-- how sizes are found: of each type in its row; or each type has the same size, which is the largest that it may have
abbrev pub AreSizes : Source → ClassSizes → Type 0
AreSizes source ByParent = AreParentsRising source
AreSizes source (Largest size) = (row : ℕ) → IsSizeOf source row size
