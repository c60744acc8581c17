use Rattle.custom_attributes.proofs.Prelude.{◌∙◌, sym, arith, TypeDef}
use Rattle.custom_attributes.proofs.TypeLemmas.{enum_run}
use Rattle.custom_attributes.proofs.enums.underlying_type.Goals as goal

pub returns : goal.returns
returns g c = λ model is.
    let rows = c.holds_one.ensures.rows model is TypeDef in
    let last = c.requires.last in
    c.instance_type.ensures model is
    ∙ enum_run model c.args.row c.reference-base.result (c.reference-base.ensures.value model is) (sym (c.is_enum.ensures model is) ∙ c.if-not-is_enum.false)
    c.members_of-fields.result.start c.members_of-fields.result.end (omega (arith, rows, last)) (c.members_of-fields.ensures model is)
