-- The start of an owner, from that of the next owner.
use Rattle.std.proofs.Common.{◌≡◌, ℕ, ◌+◌, ◌-◌, ◌<◌, ◌≤◌, ltb, cond, Bool, true, false, Option, Some, None, refl, sym, ◌∙◌, eqb, arith, inl, inr}
use Rattle.row_order.proofs.Prelude.{cases_eq, nat_tests, BadRun, rules_from, fault, Source, rows_in, number_of, start_of, SourceAt, cell_offset, in_place, MemberList, owner_of, cell_of, member_of, rules_of_start, IsVerdict, fault_in_row}
use Rattle.packed.specs.declared.fault.Fault.{Fault}
use Rattle.reading.proofs.StartLemmas.{start_here, start_next}
use Rattle.row_order.proofs.Verdicts.{first_of, verdict_unless, verdict_prefix}

-- the start of an owner, by its number and the start of the next owner
pub start_by : (source : Source) (list : MemberList) (row number next : ℕ) → row ≤ rows_in source (owner_of list)
    → number ≡ number_of source (owner_of list) row (cell_of list) → next ≡ start_of source (owner_of list) (row + 1) (cell_of list) (member_of list)
    → cond (eqb number 0) next number ≡ start_of source (owner_of list) row (cell_of list) (member_of list)
start_by source list row number next within is after = elim (cases_eq number 0) [
  | inl null ↦
      let test : eqb number 0 ≡ true = grind (arith, nat_tests) in
      rw test (after ∙ sym (start_next source (owner_of list) row (cell_of list) (member_of list) within (sym is ∙ null)))
  | inr other ↦
      let test : eqb number 0 ≡ false = grind (arith, nat_tests) in
      rw test (is ∙ sym (start_here source (owner_of list) row (cell_of list) (member_of list) within (λ null. other (is ∙ null))))
]

module _ (here : SourceAt) (list : MemberList) where
  abbrev start_at : ℕ → ℕ
  start_at row = start_of here.source (owner_of list) row (cell_of list) (member_of list)

  abbrev fault_at : ℕ → Fault
  fault_at row = fault BadRun (cell_offset here (owner_of list) row (cell_of list))

  pick : (row : ℕ) (falls : Option ℕ) (lower : Bool) → fault_in_row here (owner_of list) (cell_of list) (cond lower (Some (row + 1)) falls)
      ≡ first_of (cond lower (Some (fault_at (row + 1))) None) (fault_in_row here (owner_of list) (cell_of list) falls)
  pick row falls true = refl
  pick row falls false = refl

  -- the rule for the start after the first
  fallen_verdict : (row next start : ℕ) → next ≡ start_at (row + 1) → start ≡ start_at row
      → IsVerdict (rules_of_start (in_place here) list (row + 1)) (cond (ltb next start) (Some (fault_at (row + 1))) None)
  unfolding rules_of_start
  fallen_verdict row next start after is =
      let back : row + 1 - 1 ≡ row = omega arith in
      verdict_unless (start_at (row + 1 - 1) ≤ start_at (row + 1)) BadRun (cell_offset here (owner_of list) (row + 1) (cell_of list)) (ltb next start)
      (λ t. let low : start ≤ next = grind (arith, nat_tests) in rw (back, ← is, ← after) low)
      (λ t h. let high : next < start = grind (arith, nat_tests) in let low : start ≤ next = rw (back, ← is, ← after) at h in omega arith)

  pub falls_step : (row count next start : ℕ) (falls found : Option ℕ) → 1 ≤ row → row < count → next ≡ start_at (row + 1) → start ≡ start_at row
      → IsVerdict (rules_from (rules_of_start (in_place here) list) (row + 2) (count - (row + 1))) (fault_in_row here (owner_of list) (cell_of list) falls)
      → found ≡ cond (ltb next start) (Some (row + 1)) falls
      → IsVerdict (rules_from (rules_of_start (in_place here) list) (row - 1 + 2) (count - (row - 1 + 1))) (fault_in_row here (owner_of list) (cell_of list) found)
  falls_step row count next start falls found first below after is tail e =
      let offset : row - 1 + 2 ≡ row + 1 = omega arith in
      rw (e, offset, pick row falls (ltb next start))
      (verdict_prefix (rules_of_start (in_place here) list) (row + 1) (row + 2) (count - (row - 1 + 1)) (count - (row + 1)) _ _
      (omega arith) (omega arith) (fallen_verdict row next start after is) tail)
