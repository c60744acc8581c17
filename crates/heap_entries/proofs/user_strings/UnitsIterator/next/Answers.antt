use Rattle.heap_entries.proofs.Prelude.{List, ℕ, sym, ap, ◌∙◌, ◌+◌, length, rules, arith, units_in}
use Rattle.heap_entries.proofs.UserLemmas.{fewer_units}
use Rattle.heap_entries.proofs.user_strings.UnitsIterator.next.Goals as goal

pub returns-clause-goes : goal.returns-clause-goes
returns-clause-goes c =
    let fewer = ap length (sym c.self.view_is) ∙ fewer_units c.self.inside.bytes.now c.if-self-lt2.false ∙ ap (λ (l : List ℕ). length (units_in l) + 1) (sym c.split_at.ensures.back) in
    record { on = λ _. (tt, search rules, omega arith); keeps = tt; rests = λ _. tt }
