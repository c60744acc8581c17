use Rattle.cell_numbering.proofs.Prelude.{ℕ, List, [], take, subst, sym, refl, take_all, take_more}
use Rattle.cell_numbering.specs.StartGroups.{AreStartGroups}
use Rattle.cell_numbering.proofs.StartLemmas.{no_starts}
use Rattle.cell_numbering.proofs.start_groups.StartGroups.of.Goals as goal

pub loop-start-init : goal.loop-start-init
loop-start-init c = no_starts _ _ [] c.new.ensures.items c.in_ok-with_capacity.ensures.items refl

pub loop-start-preserved : goal.loop-start-preserved
loop-start-preserved c =
    let starts = c.args.starts.now in
    let i = c.loop-start.start-index in
    subst (λ (l : List ℕ). AreStartGroups c.add.new.self.starts.items c.add.new.self.of_use.items l) (sym (take_more starts i 0 c.loop-start-test.true))
    (c.in_ok-add.ensures (take i starts) c.loop-start.invariant)

pub returns : goal.returns
returns c =
    let groups = c.loop-start.groups in
    let starts = c.args.starts.now in
    subst (λ (l : List ℕ). AreStartGroups groups.starts.items groups.of_use.items l) (take_all c.loop-start.start-index starts c.loop-start-test.false) c.loop-start.invariant
