use Rattle.cli_info.proofs.Prelude.{attribute_line}
use Rattle.cli_info.proofs.attributes.print_typed.Goals as goal

pub returns-then-not-has_types : goal.returns-then-not-has_types
returns-then-not-has_types g c = λ model is. rw (← c.has_types.ensures.value, c.if-not-has_types.true) (c.lines_follow.ensures.nothing _)

pub returns : goal.returns
unfolding attribute_line
returns g c = λ model is.
    rw (← c.has_types.ensures.value, c.if-not-has_types.false, ← c.text_or_empty-namespace.ensures model is, ← c.text_or_empty-name.ensures model is, ← c.dot_after.ensures)
    (c.parts_follow.ensures.line _ _ _ _ _ _ c.begin.ensures c.print_items.ensures c.end.ensures)
