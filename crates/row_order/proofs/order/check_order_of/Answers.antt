use Rattle.row_order.proofs.Prelude.{◌≡◌, ℕ, Option, Some, sym, ◌∙◌, subst, AllHold, key_of, rules_of_order_by}
use Rattle.metadata.proofs.RowRuleLemmas.{key_met}
use Rattle.row_order.proofs.order.check_order_of.Goals as goal

pub returns-then-in_order-number : goal.returns-then-in_order-number
returns-then-in_order-number c =
    let here = c.args.source.now in
    let key : Some c.in-Some.key ≡ key_of c.args.table = sym c.in-Some.is ∙ c.key.ensures.value in
    subst (λ (k : Option ℕ). AllHold (rules_of_order_by here c.args.table k)) key
    (key_met here c.args.table (Some c.in-Some.key)
    (λ said. (c.requires c.args.table c.in-Some.key (sym key)).0 (rw c.number.ensures.value at c.if-in_order-number.true)))
