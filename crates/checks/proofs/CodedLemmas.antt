-- Coded indexes below the limits of their tags.
use Rattle.checks.proofs.Prelude.{◌≡◌, ◌≢◌, ℕ, ◌+◌, ◌-◌, ◌*◌, ◌/◌, ◌%◌, ◌^◌, ◌<◌, ◌≤◌, Bool, true, List, length, replicate, slice_index, slice_set, inl, inr, arith, cases_eq, div-add-mod', mod_below, AllHold, Token, Source, MayRefer, rules_of_number, IsLimit, AreLimits}
use Rattle.std.proofs.Math.Nat.{one-le-pow, pow-le-pow_right}
use Rattle.table_schema.specs.declared.coded.Coded.{Coded}
use Rattle.table_schema.specs.declared.column.ColumnKind.TheVariants as kind
use Rattle.table_schema.specs.CodedIndexes.{tag_bits, IsCoded}
use Rattle.checks.proofs.PassedLemmas.{none_in, slots_more}

-- no limits, and one more
pub limits_none : (source : Source) (coded : Coded) (count : ℕ) → AreLimits source coded (replicate count 0)
limits_none source coded count = record { each = λ tag some. absurd (some (none_in count tag)) }

pub limits_more : (source : Source) (coded : Coded) (limits : List ℕ) (tag limit : ℕ) → tag < length limits → (limit ≢ 0 → IsLimit source coded tag limit)
    → AreLimits source coded limits → AreLimits source coded (slice_set limits tag limit)
limits_more source coded limits tag limit within here are = record {
  each = λ k some. slots_more (λ j value. value ≢ 0 → IsLimit source coded j value) limits tag limit within here (λ j other _. are.each j other) k some some;
}

-- a number is its row and its tag, as they are taken from it
pub tag_taken : (number bits : ℕ) → bits ≤ 5 → number < 2 ^ 32
    → number ≡ number / 2 ^ bits * 2 ^ bits + (number - number / 2 ^ bits * 2 ^ bits % 2 ^ 32) % 32
tag_taken number bits few fits =
    let most : 2 ^ bits ≤ 2 ^ 5 = pow-le-pow_right {n = 2} (omega arith) few in
    let some : 1 ≤ 2 ^ bits = one-le-pow bits 2 (omega arith) in
    omega (arith, div-add-mod' number (2 ^ bits), mod_below number (2 ^ bits) (omega (arith, some)), most)

-- an index whose row is below the limit of its tag names a row that exists, or is null
pub below_limit : (source : Source) (coded : Coded) (nullable : Bool) (limits : List ℕ) (number row tag : ℕ) → AreLimits source coded limits
    → number ≡ row * 2 ^ tag_bits coded + tag → row < slice_index limits tag → (row ≡ 0 → nullable ≡ true)
    → (offset : ℕ) → AllHold (rules_of_number source (kind.Coded coded) nullable number offset)
below_limit source coded nullable limits number row tag are is below null offset =
    let limit = are.each tag (λ none. omega (arith, none, below)) in
    let token : Token = record { table = limit.table; row = row } in
    let named : IsCoded coded number limit.table row = record { tag = tag; listed = limit.listed; equal = is } in
    let may : MayRefer source nullable token = elim (cases_eq row 0) [
      | inl none ↦ inl (none, null none)
      | inr some ↦ inr (omega (arith, some), omega (arith, below, limit.rows))
    ] in
    ((token, named), ((token, named, may), tt))
