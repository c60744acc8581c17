-- The rows of a table that are left.
use Rattle.std.specs.Prelude.{◌≡◌, ℕ, ◌+◌, ◌-◌, ◌<◌, ◌≤◌, List, ◌∷◌, take, drop, Option, MatchOption}
use Rattle.table_schema.specs.declared.table.TableId.{TableId}
use Rattle.metadata.specs.Cell.{Cell}
use Rattle.metadata.specs.Metadata.{Metadata, rows_of, row_of}

-- the rows of a table from one to the last, of what has them
pub record RowsLeft (S : Type 0) : Type 0 where
  pub source : S
  pub next : ℕ
  pub last : ℕ

-- the rows of a model's table from one to the last
unfoldable pub rows_between : Metadata → TableId → ℕ → ℕ → List (List Cell)
rows_between model table first last = take (last + 1 - first) (drop (first - 1) (rows_of model table))

-- the next row comes: its fields are those of the row of every model that is shown, and what is left are the rows after
-- it; or there is none, and nothing changes
abbrev pub YieldsRow : {S R : Type 0} → (S → Metadata → Type 0) → (R → List Cell) → TableId → RowsLeft S → Option R → RowsLeft S → Type 0
YieldsRow shows fields table before result after =
    MatchOption result ((before.last < before.next) × (after ≡ before)) (λ it.
    (before.next ≤ before.last)
    × (after ≡ record before { next = before.next + 1 })
    × ((model : Metadata) → shows before.source model → fields it ≡ row_of model table before.next)
    × ((model : Metadata) → shows before.source model → rows_between model table before.next before.last
    ≡ fields it ∷ rows_between model table (before.next + 1) before.last))
