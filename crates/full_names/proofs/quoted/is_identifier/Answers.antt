use Rattle.std.proofs.Common.{◌∙◌, ◌&&◌, ap, sym}
use Rattle.full_names.proofs.Prelude.{list_all, is_in_identifier}
use Rattle.full_names.proofs.QuotedLemmas.{first_is}
use Rattle.full_names.proofs.quoted.is_identifier.Goals as goal

pub returns-then-begins_identifier : goal.returns-then-begins_identifier
returns-then-begins_identifier c =
    c.are_in_identifier.ensures ∙ sym (ap (λ t. t && list_all is_in_identifier c.args.text.now) (sym c.begins_identifier.ensures ∙ c.if-begins_identifier.true))
    ∙ first_is c.in-Some.first.now c.args.text.now c.in-Some.ensures.value

pub returns-else-begins_identifier : goal.returns-else-begins_identifier
returns-else-begins_identifier c =
    c.if-begins_identifier.false ∙ sym (ap (λ t. t && list_all is_in_identifier c.args.text.now) (sym c.begins_identifier.ensures ∙ c.if-begins_identifier.false))
    ∙ first_is c.in-Some.first.now c.args.text.now c.in-Some.ensures.value
