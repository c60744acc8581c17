use Rattle.sig_items.proofs.Prelude.{◌≡◌, ◌∙◌, [], ◌∷◌, sym, arith, items_left}
use Rattle.sig_items.proofs.Stacks.{next_items, reported_somewhere, ended_items}
use Rattle.sig_items.proofs.items.ItemsIterator.next.Goals as goal

pub returns-in_err-self-clause-steps : goal.returns-in_err-self-clause-steps
returns-in_err-self-clause-steps c =
    let none : c.args.self.now ≡ [] = sym c.self.view_is ∙ ended_items c.self.inside.position c.self.inside.frames c.self.inside.bytes.now c.in_err-self.was c.self.invariant.roomy in
    rw c.from_residual.ensures (none, none)

pub returns-in_err-step-clause-steps : goal.returns-in_err-step-clause-steps
returns-in_err-step-clause-steps c =
    absurd (reported_somewhere c.self.inside.position c.in_ok-self.field-0 c.self.inside.frames c.self.inside.bytes.now c.in_ok-self.was c.self.invariant.reported (sym c.in_err-step.ensures.reported))

pub invariant_of-self : goal.invariant_of-self
invariant_of-self c =
    let next = next_items c.self.inside.position c.followed-self-inside.result c.in_ok-self.field-0 c.self.inside.frames c.followed-self-inside.new.frames c.in_ok-step.step c.self.inside.bytes.now c.in_ok-self.was (sym c.in_ok-step.ensures.reported) c.followed-self-inside.ensures.reported c.self.invariant.reported in
    record { reported = next.1; roomy = c.followed-self-inside.ensures.roomy }

pub returns-clause-steps : goal.returns-clause-steps
returns-clause-steps c =
    sym c.self.view_is ∙ (next_items c.self.inside.position c.followed-self-inside.result c.in_ok-self.field-0 c.self.inside.frames c.followed-self-inside.new.frames c.in_ok-step.step c.self.inside.bytes.now c.in_ok-self.was (sym c.in_ok-step.ensures.reported) c.followed-self-inside.ensures.reported c.self.invariant.reported).0

pub returns-clause-goes : goal.returns-clause-goes
returns-clause-goes c =
    let next = next_items c.self.inside.position c.followed-self-inside.result c.in_ok-self.field-0 c.self.inside.frames c.followed-self-inside.new.frames c.in_ok-step.step c.self.inside.bytes.now c.in_ok-self.was (sym c.in_ok-step.ensures.reported) c.followed-self-inside.ensures.reported c.self.invariant.reported in
    let e : c.args.self.now ≡ c.in_ok-step.step.item ∷ items_left c.followed-self-inside.result c.followed-self-inside.new.frames c.in_ok-step.step.tail.now = sym c.self.view_is ∙ next.0 in
    rw e (record { on = λ f. (tt, tt, omega arith); keeps = tt; rests = λ f. tt })
