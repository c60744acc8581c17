use Rattle.std.proofs.Common.{◌∙◌, ap}
use Rattle.sig_grammar.specs.Views.{core_of}
use Rattle.sig_grammar.proofs.ViewLemmas.{view_vector, view_function}
use Rattle.sig_encoder.proofs.SameLemmas.{of_another_form, shown_as}
use Rattle.sig_encoder.proofs.same_types.+same.Goals as goal

pub same_core-returns-in_default : goal.same_core-returns-in_default
same_core-returns-in_default t c =
    shown_as (ap core_of c.in-Vector.is ∙ view_vector c.in-Vector.of)
    (of_another_form c.args.other.now _ c.in_default.not-Vector)

pub same_core-returns-in_default-other : goal.same_core-returns-in_default-other
same_core-returns-in_default-other t c =
    shown_as (ap core_of c.in-Function.is ∙ view_function c.in-Function.method)
    (of_another_form c.args.other.now _ c.in_default-other.not-Function)

pub is_pointer-returns-in_default : goal.is_pointer-returns-in_default
is_pointer-returns-in_default t c = of_another_form c.args.core.now _ c.in_default.not-Pointer

pub is_array-returns-in_default : goal.is_array-returns-in_default
is_array-returns-in_default t c = of_another_form c.args.core.now _ c.in_default.not-Array

pub is_instance-returns-in_default : goal.is_instance-returns-in_default
is_instance-returns-in_default t c = of_another_form c.args.core.now _ c.in_default.not-Instance
