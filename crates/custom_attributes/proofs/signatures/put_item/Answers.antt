use Rattle.custom_attributes.proofs.Prelude.{◌∙◌, ◌++◌, ◌∷◌, [], false, ap, sym, if_few, params_from, preceded}
use Rattle.custom_attributes.proofs.ParamLemmas.{type_put}
use Rattle.custom_attributes.proofs.signatures.put_item.Goals as goal

pub returns-clause-types : goal.returns-clause-types
returns-clause-types g c = λ model is later.
    let got = c.args.params.now in
    type_put model c.args.vector c.args.item later got c.in_ok-of.of (sym c.begins_vector.ensures ∙ c.if-begins_vector.false) (c.in_ok-of.ensures model is)
    ∙ ap (λ types. if_few (preceded types (params_from model false later))) (ap (λ of. got ++ of ∷ []) (sym c.argument_type.ensures) ∙ sym c.push.ensures.appended)
