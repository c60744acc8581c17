-- How far a comparison of the cells of two roots has come.
use Rattle.std.specs.Prelude.{◌≤◌, List, All, length}
use Rattle.metadata.specs.Metadata.{Metadata}
use Rattle.metadata.specs.Model.{IsModel}
use Rattle.comparison.specs.ComparedCells.{AreCells, HasBlobNames}
use Rattle.comparison.specs.Differences.{Grows, IsThere}
use Rattle.comparison.specs.declared.cells.Comparison.{Comparison}
use Rattle.comparison.specs.declared.cells.Progress.{Progress}
use Rattle.comparison.specs.declared.difference.Difference.{Difference}

-- the cells and the names are those of the roots, and cells that both have were found, at most up to the limit
pub record IsProgress (comparison : Comparison) (progress : Progress) : Type 0 where
  pub cells : AreCells comparison.left.now comparison.right.now progress.cells
  pub names : HasBlobNames comparison.left.now comparison.right.now progress.compared
  pub few : length progress.found.items ≤ comparison.limit
  pub there : All (IsThere comparison.left.now comparison.right.now) progress.found.items

-- more was found than before, up to the limit: for models of the roots, these cells
pub record Extends (comparison : Comparison) (before : List Difference) (after : Progress) (more : Metadata → Metadata → List Difference) : Type 0 where
  pub progress : IsProgress comparison after
  pub found : (first second : Metadata) → IsModel comparison.left.now first → IsModel comparison.right.now second
      → Grows comparison.limit before after.found.items (more first second)
