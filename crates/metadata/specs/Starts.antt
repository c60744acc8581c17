-- The starts of the runs of members that owners have (ECMA-335 II.22.12, II.22.26, II.22.35 and II.22.37).
use Rattle.std.specs.Prelude.{ℕ, zero, suc, ◌+◌, ◌-◌, ◌==◌, if◌then◌else◌}
use Rattle.table_schema.specs.declared.table.TableId.{TableId}
use Rattle.metadata.specs.Source.{Source, rows_in, number_of}

-- the start of the owner in `row`, the first of `left` owners: its list value; if that is null, the start of the next
-- owner; after the last owner, it is `end`
abbrev pub start_from : (ℕ → ℕ) → ℕ → ℕ → ℕ → ℕ
start_from value end row zero = end
start_from value end row (suc left) = if value row == 0 then start_from value end (row + 1) left else value row

-- the start of the owner in a row, by a column that lists rows of the member table
unfoldable pub start_of : Source → TableId → ℕ → ℕ → TableId → ℕ
start_of source owner row column member =
    start_from (λ r. number_of source owner r column) (rows_in source member + 1) row (rows_in source owner + 1 - row)
