use Rattle.clim_c.proofs.Prelude.{arith, same_Some}
use Rattle.clim_c.proofs.look_ups.clim_members.Goals as goal

pub returns-clause-run : goal.returns-clause-run
returns-clause-run c = λ model is owning owned owner_is member_is.
    let owner = same_Some c.in-Some-Some.owner owning (c.in-Some-Some.ensures.complete owning owner_is) in
    let member = same_Some c.in-Some-Some.member owned (c.in-Some-Some.ensures'.complete owned member_is) in
    (rw (c.in-Some.ensures.sound.0, owner, member) at c.in-Some-run_of.ensures.sound) model is

pub returns-clause-there : goal.returns-clause-there
returns-clause-there c = (
  c.in-Some.ensures.sound.1,
  c.if-row-lt1.false,
  (
    c.in-Some-Some.owner,
    c.in-Some-Some.member,
    c.in-Some-Some.ensures.sound,
    c.in-Some-Some.ensures'.sound,
    c.in-Some-run_of.ensures.owned,
    rw (← c.in-Some.ensures.sound.0) (omega (arith, c.if-row-count.false, c.count.ensures.rows)),
  ),
)
