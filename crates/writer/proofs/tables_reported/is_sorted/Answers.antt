use Rattle.writer.proofs.Prelude.{sym, subst, ◌∙◌, IsSome}
use Rattle.writer.proofs.CountLemmas.{unkeyed, keyed}
use Rattle.writer.proofs.tables_reported.is_sorted.Goals as goal

pub in_order-requires : goal.in_order-requires
in_order-requires g c = subst IsSome c.key.ensures.value (sym c.is_some.ensures ∙ c.if-is_some.true)

pub returns-then-is_some : goal.returns-then-is_some
returns-then-is_some g c model is =
    keyed c.sorted_bits_report_order.ensures model (c.holds_one.ensures.valid model is) c.args.table c.key.result c.key.ensures.value
    (sym c.is_some.ensures ∙ c.if-is_some.true) c.in_order.result (c.in_order.ensures model is)

pub returns-else-is_some : goal.returns-else-is_some
returns-else-is_some g c model is =
    c.if-is_some.false ∙ unkeyed model c.args.table c.key.result c.key.ensures.value (sym c.is_some.ensures ∙ c.if-is_some.false)
