-- The starts of owners, from one of them back to the first.
use Rattle.std.specs.Prelude.{◌≡◌, ℕ, zero, suc, ◌+◌, ◌≤◌, ◌<◌, List, [], ◌∷◌, length}
use Rattle.table_schema.specs.Columns.{columns_of}
use Rattle.metadata.specs.Source.{rows_in}
use Rattle.metadata.specs.Starts.{start_of}
use Rattle.reading.specs.declared.starts.Starts.TheInside.{Inside}

-- the value at a number, then at the number before, and so on down to 1
abbrev pub down_from : (ℕ → ℕ) → ℕ → List ℕ
down_from value zero = []
down_from value (suc n) = value (suc n) ∷ down_from value n

-- the starts that remain, from the last remaining owner on
abbrev pub starts_left : Inside → List ℕ
starts_left left = down_from (λ row. start_of left.source.now.source left.owner row left.column left.member) left.row

-- the owners are rows of the table, and the kept start is that of the next owner
pub record AreStartsLeft (left : Inside) : Type 0 where
  pub column : left.column < length (columns_of left.owner)
  pub within : left.row ≤ rows_in left.source.now.source left.owner
  pub behind : left.next ≡ start_of left.source.now.source left.owner (left.row + 1) left.column left.member
