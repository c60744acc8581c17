use Rattle.heap_entries.proofs.Prelude.{[], subst, refl, sym, ◌∙◌, inl, inr, ap, arith, length, take, drop, ◌+◌, ◌-◌, ℕ, List, ◌≡◌, false≢true, Reports, at_offset, rules_of_text, IsEnded, IsText}
use Rattle.std.specs.Prelude.{IfOk, IsOkAnd, IsCharBoundary}
use Rattle.heap_entries.proofs.TextLemmas.{ended_length, text_ended, text_same, bytes_are}
use Rattle.heap_entries.proofs.WholeLemmas.{whole_is, end_boundary, text_begins}
use Rattle.heap_entries.proofs.strings.Strings.text.Goals as goal

-- the part of the whole that ends before the NUL
cut_is : (heap whole cut : List ℕ) (index : ℕ) (bytes : List ℕ) → IsEnded heap index bytes → whole ≡ heap → cut ≡ take (index + length bytes - index) (drop index whole) → cut ≡ bytes
cut_is heap whole cut index bytes stands same is = is ∙ ap (λ l. take (index + length bytes - index) (drop index l)) same ∙ bytes_are heap index bytes stands _ (omega arith)

pub returns-in_default-clause-sound : goal.returns-in_default-clause-sound
returns-in_default-clause-sound c = subst (λ l. IfOk c.text.result (λ text. IsText l c.args.index text.now)) c.self.view_is c.text.ensures.sound

pub returns-in_default-clause-complete : goal.returns-in_default-clause-complete
returns-in_default-clause-complete c =
    subst (λ l. (text : List ℕ) → IsText l c.args.index text → IsOkAnd c.text.result (λ found. found.now ≡ text)) c.self.view_is c.text.ensures.complete

pub returns-in_default-clause-reports : goal.returns-in_default-clause-reports
returns-in_default-clause-reports c =
    subst (λ l. (offset : ℕ) → Reports (rules_of_text l c.args.index offset) (at_offset offset c.text.result)) c.self.view_is c.text.ensures.reports

pub returns-then-start-eq0-clause-sound : goal.returns-then-start-eq0-clause-sound
returns-then-start-eq0-clause-sound c = inl (c.if-start-eq0.true, refl)

pub returns-then-start-eq0-clause-complete : goal.returns-then-start-eq0-clause-complete
returns-then-start-eq0-clause-complete c = λ text is. elim is [
  | inl none ↦ sym none.1
  | inr some ↦ absurd (omega (arith, some.0, c.if-start-eq0.true))
]

pub returns-then-start-eq0-clause-reports : goal.returns-then-start-eq0-clause-reports
returns-then-start-eq0-clause-reports c = λ offset. (inl c.if-start-eq0.true, (([], inl (c.if-start-eq0.true, refl)), tt))

pub overflow_add-start : goal.overflow_add-start
overflow_add-start c = omega (arith, ended_length c.self.inside.heap.now c.args.index c.in-Some-ended_at.bytes.now c.in-Some-ended_at.ensures.sound)

pub range-requires-clause-start_boundary : goal.range-requires-clause-start_boundary
range-requires-clause-start_boundary c = λ _. c.if-is_char_boundary.ensures.test.0 refl

pub range-requires-clause-end_boundary : goal.range-requires-clause-end_boundary
range-requires-clause-end_boundary c =
    let index = c.args.index in
    let bytes = c.in-Some-ended_at.bytes.now in
    let whole = whole_is c.self.inside c.in-Some.whole c.in-Some.is c.self.invariant in
    subst (λ l. IsCharBoundary l (index + length bytes)) (sym whole.0) (end_boundary c.self.inside.heap.now index bytes c.in-Some-ended_at.ensures.sound)

pub returns-in-Some-ended_at-clause-sound : goal.returns-in-Some-ended_at-clause-sound
returns-in-Some-ended_at-clause-sound c =
    let heap = c.self.inside.heap.now in
    let index = c.args.index in
    let found = c.in-Some-ended_at.ensures.sound in
    let whole = whole_is c.self.inside c.in-Some.whole c.in-Some.is c.self.invariant in
    let is = cut_is heap c.in-Some.whole.now c.range.result.now index c.in-Some-ended_at.bytes.now found whole.0 c.range.ensures.value in
    subst (λ l. IsText l index c.range.result.now) c.self.view_is
    (inr (omega (arith, c.if-start-eq0.false), subst (IsEnded heap index) (sym is) found, c.range.utf8))

pub returns-in-Some-ended_at-clause-complete : goal.returns-in-Some-ended_at-clause-complete
returns-in-Some-ended_at-clause-complete c =
    let heap = c.self.inside.heap.now in
    let index = c.args.index in
    let bytes = c.in-Some-ended_at.bytes.now in
    let found = c.in-Some-ended_at.ensures.sound in
    let whole = whole_is c.self.inside c.in-Some.whole c.in-Some.is c.self.invariant in
    let cut = cut_is heap c.in-Some.whole.now c.range.result.now index bytes found whole.0 c.range.ensures.value in
    subst (λ l. (text : List ℕ) → IsText l index text → c.range.result.now ≡ text) c.self.view_is
    (λ text is. cut ∙ (text_same heap index bytes text (omega (arith, c.if-start-eq0.false)) found is).0)

pub returns-in-Some-ended_at-clause-reports : goal.returns-in-Some-ended_at-clause-reports
returns-in-Some-ended_at-clause-reports c =
    let stands = subst (λ l. IsEnded l c.args.index c.in-Some-ended_at.bytes.now) c.self.view_is c.in-Some-ended_at.ensures.sound in
    λ offset. (inr (c.in-Some-ended_at.bytes.now, stands), ((c.range.result.now, returns-in-Some-ended_at-clause-sound c), tt))

pub returns-in-Some-2-clause-complete : goal.returns-in-Some-2-clause-complete
returns-in-Some-2-clause-complete c = λ text is.
    let whole = whole_is c.self.inside c.in-Some.whole c.in-Some.is c.self.invariant in
    let begins = text_begins c.args.self.now c.args.index text (omega (arith, c.if-start-eq0.false)) is in
    false≢true (c.if-is_char_boundary.ensures.test.1 (subst (λ l. IsCharBoundary l c.args.index) (sym (whole.0 ∙ c.self.view_is)) begins))

pub returns-in-Some-2-clause-reports : goal.returns-in-Some-2-clause-reports
returns-in-Some-2-clause-reports c = λ offset. inr (
  inr (c.in-Some-2.field-0.now, subst (λ l. IsEnded l c.args.index c.in-Some-2.field-0.now) c.self.view_is c.in-Some-2.ensures.sound),
  inl (λ text. returns-in-Some-2-clause-complete c text.0 text.1, refl),
)

pub returns-in-None-clause-complete : goal.returns-in-None-clause-complete
returns-in-None-clause-complete c =
    subst (λ l. (text : List ℕ) → IsText l c.args.index text → ⊥) c.self.view_is
    (λ text is. c.in-None.ensures.none text (text_ended _ _ text (omega (arith, c.if-start-eq0.false)) is))

pub returns-in-None-clause-reports : goal.returns-in-None-clause-reports
returns-in-None-clause-reports c = λ offset. inl (
  λ some. elim some [
    | inl none ↦ c.if-start-eq0.false none
    | inr is ↦ c.in-None.ensures.none is.0 (subst (λ l. IsEnded l c.args.index is.0) (sym c.self.view_is) is.1)
  ],
  refl,
)
