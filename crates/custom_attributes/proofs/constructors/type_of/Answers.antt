use Rattle.custom_attributes.proofs.Prelude.{◌∙◌, ℕ, Some, ap, sym, TableId, type_of}
use Rattle.navigation.specs.Nesting.{type_token}
use Rattle.custom_attributes.proofs.OwnerLemmas.{owner_is}
use Rattle.custom_attributes.proofs.constructors.type_of.Goals as goal

pub returns-in-MethodDef-clause-value : goal.returns-in-MethodDef-clause-value
returns-in-MethodDef-clause-value c = λ model is.
    let owner = owner_is model (c.holds_one.ensures.valid model is) c.args.of.row c.type_of_method.result (c.type_of_method.ensures.sound model is) in
    ap (λ (row : ℕ). Some (type_token row)) (sym owner) ∙ sym (ap (λ (t : TableId). type_of model t c.args.of.row) c.in-MethodDef.is)
