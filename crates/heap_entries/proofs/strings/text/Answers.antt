use Rattle.std.proofs.Common.{inl, inr, refl, ◌∙◌, arith}
use Rattle.heap_entries.proofs.TextLemmas.{text_same, text_ended}
use Rattle.heap_entries.proofs.strings.text.Goals as goal

pub returns-in_default-clause-complete : goal.returns-in_default-clause-complete
returns-in_default-clause-complete c = λ text is. c.in_default.ensures.none text (text_ended _ _ text (omega arith) is)

pub returns-in_default-clause-reports : goal.returns-in_default-clause-reports
returns-in_default-clause-reports c = λ offset. inl (
  λ some. elim some [ inl none ↦ omega arith | inr is ↦ c.in_default.ensures.none is.0 is.1 ],
  refl,
)

pub returns-in-Ok-clause-complete : goal.returns-in-Ok-clause-complete
returns-in-Ok-clause-complete c = λ text is.
    c.in-Ok.ensures.0 ∙ (text_same _ _ c.in-Some.bytes.now text (omega arith) c.in-Some.ensures.sound is).0

pub returns-in-Err-clause-complete : goal.returns-in-Err-clause-complete
returns-in-Err-clause-complete c = λ text is.
    c.in-Err.ensures (text_same _ _ c.in-Some.bytes.now text (omega arith) c.in-Some.ensures.sound is).1

pub returns-in-Err-clause-reports : goal.returns-in-Err-clause-reports
returns-in-Err-clause-reports c = λ offset. inr (
  inr (c.in-Some.bytes.now, c.in-Some.ensures.sound),
  inl (λ some. c.in-Err.ensures (text_same _ _ c.in-Some.bytes.now some.0 (omega arith) c.in-Some.ensures.sound some.1).1, refl),
)
