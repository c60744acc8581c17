-- A table that a list contains is one of its tables.
use Rattle.std.proofs.Common.{◌≡◌, ℕ, zero, suc, ◌<◌, List, [], ◌∷◌, Option, Some, None, length, slice_index_or, inl, inr, arith}
use Rattle.std.specs.List.{Contains}
use Rattle.table_schema.specs.declared.table.TableId.{TableId}
use Rattle.type_records.specs.Listed.{IsOneOf}

one_at : (listed : List (Option TableId)) (table : TableId) (k : ℕ) → k < length listed → slice_index_or listed k (Some table) ≡ Some table → IsOneOf listed table
one_at [] table k below is = absurd (omega (arith, below))
one_at (None ∷ listed) table zero below is = absurd cc
one_at (None ∷ listed) table (suc k) below is = one_at listed table k (omega (arith, below)) is
one_at (Some first ∷ listed) table zero below is = inl cc
one_at (Some first ∷ listed) table (suc k) below is = inr (one_at listed table k (omega (arith, below)) is)

pub is_one_of : (listed : List (Option TableId)) (table : TableId) → Contains listed (Some table) → IsOneOf listed table
is_one_of listed table is = one_at listed table is.0 is.1 is.2
