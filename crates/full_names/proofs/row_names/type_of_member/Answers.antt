use Rattle.std.proofs.Common.{Some, refl, subst, sym}
use Rattle.full_names.proofs.Prelude.{TableId, IsMemberOf}
use Rattle.full_names.proofs.RowNameLemmas.{no_member}
use Rattle.full_names.proofs.row_names.type_of_member.Goals as goal

pub returns-in-Field-clause-member : goal.returns-in-Field-clause-member
returns-in-Field-clause-member g c = λ model shown.
    subst (λ (t : TableId). IsMemberOf model t c.args.token.row (Some c.type_token.result)) (sym c.in-Field.is) (c.type_token.result, ((c.type_of_field.result, c.type_of_field.ensures.sound model shown, c.type_token.ensures)), refl)

pub returns-in-MethodDef-clause-member : goal.returns-in-MethodDef-clause-member
returns-in-MethodDef-clause-member g c = λ model shown.
    subst (λ (t : TableId). IsMemberOf model t c.args.token.row (Some c.type_token-in-MethodDef.result)) (sym c.in-MethodDef.is) (c.type_token-in-MethodDef.result, ((c.type_of_method.result, c.type_of_method.ensures.sound model shown, c.type_token-in-MethodDef.ensures)), refl)

pub returns-in-Event-clause-member : goal.returns-in-Event-clause-member
returns-in-Event-clause-member g c = λ model shown.
    subst (λ (t : TableId). IsMemberOf model t c.args.token.row (Some c.type_token-in-Event.result)) (sym c.in-Event.is) (c.type_token-in-Event.result, (let of = c.type_of_event.ensures.sound model shown in (c.type_of_event.result, of.0, of.1, of.2, c.type_token-in-Event.ensures)), refl)

pub returns-in-Property-clause-member : goal.returns-in-Property-clause-member
returns-in-Property-clause-member g c = λ model shown.
    subst (λ (t : TableId). IsMemberOf model t c.args.token.row (Some c.type_token-in-Property.result)) (sym c.in-Property.is) (c.type_token-in-Property.result, (let of = c.type_of_property.ensures.sound model shown in (c.type_of_property.result, of.0, of.1, of.2, c.type_token-in-Property.ensures)), refl)

pub returns-in_default-clause-member : goal.returns-in_default-clause-member
returns-in_default-clause-member g c = λ model shown.
    no_member model c.args.token.table c.args.token.row c.in_default.not-Field c.in_default.not-MethodDef c.in_default.not-Event c.in_default.not-Property
