-- The values of the program's uses and spans.
use Rattle.std.specs.Prelude.{◌≡◌, ◌<◌, ℕ, List, All, map, slice_index_or}
use Rattle.std.specs.declared.cmp.Ordering.{Ordering}
use Rattle.std.specs.Ordering.{nat_cmp, ordering_then}
use Rattle.std.specs.Borrow.{Bor}
use Rattle.heap_pools.specs.declared.text_plan.Use.{Use}
use Rattle.heap_pools.specs.declared.text_plan.Span.{Span}
use Rattle.heap_pools.specs.EndingOrder.{ending_cmp, last_number}

-- the bytes of each text
abbrev pub bytes_of : List (Bor (List ℕ)) → List (List ℕ)
bytes_of texts = map (λ text. text.now) texts

abbrev pub span_at : List Span → ℕ → Span
span_at spans k = slice_index_or spans k (record { start = 0; len = 0 })

-- the number of a use is that of the last eight bytes of its text
pub record IsNumbered (item : Use) : Type 0 where
  pub number : item.number ≡ last_number item.text.now
  pub bytes : All (λ byte. byte < 256) item.text.now

-- the order of uses by their numbers, and then by the endings of their texts
abbrev pub use_cmp : Use → Use → Ordering
use_cmp a b = ordering_then (nat_cmp a.number b.number) (ending_cmp a.text.now b.text.now)
