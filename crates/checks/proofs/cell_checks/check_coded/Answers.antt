use Rattle.checks.proofs.Prelude.{inl, inr, refl, same_Some}
use Rattle.checks.proofs.cell_checks.check_coded.Goals as goal

pub returns-in_default : goal.returns-in_default
returns-in_default c = λ offset. inl (λ has. let some = c.named_by.ensures.complete has.0 has.1 in let none = c.in_default.is in absurd cc, refl)

pub returns-then-may_refer : goal.returns-then-may_refer
returns-then-may_refer c = λ offset.
    let token = c.in-Some.token in
    ((token, c.in-Some.ensures.sound), ((token, c.in-Some.ensures.sound, c.may_refer.ensures.0 c.if-may_refer.true), tt))

pub returns-else-may_refer : goal.returns-else-may_refer
returns-else-may_refer c = λ offset.
    let token = c.in-Some.token in
    inr (
      (token, c.in-Some.ensures.sound),
      inl (
        λ some.
            let same = same_Some token some.0 (c.in-Some.ensures.complete some.0 some.1) in
            let may = c.may_refer.ensures.1 (rw (← same) at some.2) in
            absurd cc,
        refl,
      ),
    )
