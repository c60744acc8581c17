use Rattle.visible_rows.proofs.Prelude.{Some, subst, sym, TableId, IsMemberOf, IsPartOf}
use Rattle.visible_rows.proofs.DescribedLemmas.{part_of_member}
use Rattle.visible_rows.proofs.declaring.part_of.Goals as goal

pub returns-in-TypeDef : goal.returns-in-TypeDef
returns-in-TypeDef c = λ model is.
    subst (λ (t : TableId). IsPartOf model t c.args.of.row (Some c.args.of)) (sym c.in-TypeDef.is) (λ i. Some (record { table = c.in-TypeDef.is i; row = c.args.of.row }))

pub returns-in-Param : goal.returns-in-Param
returns-in-Param c = λ model is.
    let class = c.type_of_member.result in
    let member = subst (λ (t : TableId). IsMemberOf model t c.method_of.result.row class) c.method_of.ensures.table (c.type_of_member.ensures.member model is) in
    subst (λ (t : TableId). IsPartOf model t c.args.of.row class) (sym c.in-Param.is) (c.method_of.result.row, c.method_of.ensures.method model is, member)

pub returns-in_default : goal.returns-in_default
returns-in_default c = λ model is.
    part_of_member model c.args.of.table c.args.of.row c.type_of_member-in_default.result c.in_default.not-TypeDef c.in_default.not-Param (c.type_of_member-in_default.ensures.member model is)
