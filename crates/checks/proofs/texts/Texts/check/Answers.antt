use Rattle.checks.proofs.Prelude.{◌≡◌, ℕ, ◌+◌, ◌-◌, ◌*◌, ◌/◌, ◌%◌, List, slice_index, sym, ap, ◌∙◌, inl, inr, arith, cases_lt, false≢true, div-add-mod', mod_below, err_from_is_err_and, text_length}
use Rattle.checks.proofs.TextBytes.{none_before, text_length_is}
use Rattle.checks.proofs.texts.Texts.check.Goals as goal

pub returns-then-covers-clause-reports : goal.returns-then-covers-clause-reports
returns-then-covers-clause-reports c = λ offset. rw c.self.view_is at (c.in_ok-check_within.ensures.reports offset)

pub returns-in_err-check_within-clause-reports : goal.returns-in_err-check_within-clause-reports
returns-in_err-check_within-clause-reports c = λ offset.
    let p = err_from_is_err_and c.from_residual.result c.from_residual.ensures.1 in
    rw (p.1, p.2) (rw c.self.view_is at (c.in_err-check_within.ensures.reports offset))

pub returns-then-covers-clause-bytes : goal.returns-then-covers-clause-bytes
returns-then-covers-clause-bytes c =
    let heap = c.self.inside.heap.now in
    let index = c.args.index in
    let part = c.self.inside.part in
    let slot = index / part in
    let known = slice_index c.self.inside.starts slot in
    let room = part - index % part in
    let covered = c.covers.ensures.0 c.if-covers.true in
    let remainder = mod_below index part (omega (arith, c.self.invariant.part)) in
    let is : index + room ≡ (slot + 1) * part = omega (arith, div-add-mod' index part, remainder) in
    let all = none_before heap known ((slot + 1) * part) index room (c.self.invariant.starts.long slot covered.0) covered.1 (omega (arith, is, remainder)) is in
    text_length_is heap index part room (omega (arith, c.if-start-eq0.false)) c.self.invariant.part all ∙ ap (λ (l : List ℕ). text_length l index) c.self.view_is

pub returns-clause-bytes : goal.returns-clause-bytes
returns-clause-bytes c =
    text_length_is c.self.inside.heap.now c.args.index c.self.inside.part c.bytes_before_nul-bytes.result (omega (arith, c.if-start-eq0.false)) c.self.invariant.part
    (sym c.bytes_before_nul-bytes.ensures.bytes)
    ∙ ap (λ (l : List ℕ). text_length l c.args.index) c.self.view_is

-- the start that is known of the part is after the index
pub reach_of-requires-clause-later : goal.reach_of-requires-clause-later
reach_of-requires-clause-later c = λ some. elim (cases_lt c.args.index (slice_index c.self.inside.starts (c.args.index / c.self.inside.part))) [
  | inl later ↦ later
  | inr before ↦ absurd (false≢true (sym c.if-covers.false ∙ c.covers.ensures.1 (some, before)))
]

pub returns-in_err-reach-clause-reports : goal.returns-in_err-reach-clause-reports
returns-in_err-reach-clause-reports c = λ offset.
    let p = err_from_is_err_and c.from_residual-in_err-reach.result c.from_residual-in_err-reach.ensures.1 in
    rw (p.1, p.2) (rw c.self.view_is at (c.in_err-reach.ensures.reports offset))

pub returns-clause-reports : goal.returns-clause-reports
returns-clause-reports c = λ offset. rw c.self.view_is at (c.in_ok-reach.ensures.reports offset)
