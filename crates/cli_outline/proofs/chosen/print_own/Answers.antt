use Rattle.cli_outline.proofs.Prelude.{◌∙◌, flat_map-map, sym, MethodSemantics, KeyedRow, own_rows, row_of, token_at}
use Rattle.cli_outline.proofs.ChosenLemmas.{chosen_more, item_printed, items_printed}
use Rattle.cli_outline.proofs.chosen.print_own.Goals as goal

pub returns-then-not-has_accessors : goal.returns-then-not-has_accessors
unfolding own_rows
returns-then-not-has_accessors g c = λ model is. rw (sym c.has_accessors.ensures ∙ c.if-not-has_accessors.true) (c.print_row.ensures model is)

pub loop-accessor-preserved : goal.loop-accessor-preserved
loop-accessor-preserved g c = λ model is.
    item_printed (λ (found : KeyedRow). row_of MethodSemantics found.row) c.linked-accessors.result.now c.loop-accessor.accessor-index (record { key = 0; row = 0 }) c.loop-accessor-test.true (c.loop-accessor.invariant model is) (c.print_row-in-loop-accessor.ensures model is)

pub returns : goal.returns
unfolding own_rows
returns g c = λ model is.
    rw (sym c.has_accessors.ensures ∙ c.if-not-has_accessors.false, ← c.linked-accessors.ensures.rows model is (token_at c.args.token.table c.args.token.row) c.number_to-number.ensures, flat_map-map)
    (chosen_more (c.print_row.ensures model is) (items_printed (λ (found : KeyedRow). row_of MethodSemantics found.row) c.linked-accessors.result.now c.loop-accessor.accessor-index c.loop-accessor-test.false (c.loop-accessor.invariant model is)))
