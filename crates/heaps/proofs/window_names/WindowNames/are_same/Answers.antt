use Rattle.heaps.proofs.Prelude.{◌-◌, sym, subst, arith, AreNames}
use Rattle.heaps.proofs.WindowLemmas.{covered}
use Rattle.heaps.proofs.window_names.WindowNames.are_same.Goals as goal

pub returns-then-have_one_name : goal.returns-then-have_one_name
returns-then-have_one_name c = λ true heap named.
    let width = c.args.self.now.width in
    covered heap width (c.args.len - width) c.args.len c.args.first c.args.second (omega arith)
    (c.have_same_names.ensures true heap (subst (AreNames heap width) (sym c.deref-then-have_one_name.ensures.value) named))
    (c.have_one_name.ensures c.if-have_one_name.true heap width (subst (AreNames heap width) (sym c.deref.ensures.value) named))
