use Rattle.cli_info.proofs.Prelude.{attribute_lines}
use Rattle.cli_info.proofs.AttributeLemmas.{no_items}
use Rattle.cli_info.proofs.attributes.print_attribute.Goals as goal

pub returns-in_default : goal.returns-in_default
unfolding attribute_lines
returns-in_default g c = λ model is. rw (← c.in_default.ensures.value model is) (c.lines_follow.ensures.nothing _)

pub returns-in_default-params_of : goal.returns-in_default-params_of
unfolding attribute_lines
returns-in_default-params_of g c = λ model is.
    rw (← c.in-Some.ensures.value model is, ← c.in_default-params_of.ensures model is, no_items) (c.lines_follow.ensures.nothing _)

pub returns-in_default-texts_in : goal.returns-in_default-texts_in
unfolding attribute_lines
returns-in_default-texts_in g c = λ model is.
    rw (← c.in-Some.ensures.value model is, ← c.in-Some-params_of.ensures model is, ← c.as_slice.ensures, ← c.bytes_or_empty-value.ensures model is, ← c.in_default-texts_in.ensures, no_items)
    (c.lines_follow.ensures.nothing _)

pub returns-in_default-type_of : goal.returns-in_default-type_of
unfolding attribute_lines
returns-in_default-type_of g c = λ model is.
    rw (← c.in-Some.ensures.value model is, ← c.in_default-type_of.ensures.value model is) (c.lines_follow.ensures.nothing _)
