use Rattle.declarations.proofs.Prelude.{◌≤◌, arith, refl, subst, sym, TableId, MemberRef, TypeDef, HasRow, IsClassUnder}
use Rattle.declarations.proofs.ClassNames.{class_under, parent_named, type_named}
use Rattle.declarations.proofs.references.class_of_member.Goals as goal

pub type_of_method-requires-clause-last : goal.type_of_method-requires-clause-last
type_of_method-requires-clause-last g c = subst (λ (t : TableId). c.member_parent-parent.result.row ≤ g.S.ReadMetadata.row_count c.args.source.now t) c.in-MethodDef.is c.member_parent-parent.ensures.last

pub returns-in-MethodDef-clause-class : goal.returns-in-MethodDef-clause-class
returns-in-MethodDef-clause-class g c = λ model shown. (
  c.member_parent-parent.result,
  c.member_parent-parent.ensures.parent model shown,
  subst (λ (t : TableId). IsClassUnder model t c.member_parent-parent.result.row (record { table = TypeDef; row = c.type_of_method.result })) (sym c.in-MethodDef.is)
      (c.type_of_method.result, c.type_of_method.ensures.sound model shown, refl),
)

pub returns-in-MethodDef-clause-named : goal.returns-in-MethodDef-clause-named
returns-in-MethodDef-clause-named g c = λ model shown scopes. type_named scopes model (c.holds_one.ensures.valid model shown) c.type_of_method.result

pub returns-in_default-clause-class : goal.returns-in_default-clause-class
returns-in_default-clause-class g c = λ model shown. (
  c.member_parent-parent.result,
  c.member_parent-parent.ensures.parent model shown,
  class_under model c.member_parent-parent.result.table c.member_parent-parent.result.row c.in_default.not-MethodDef,
)

pub returns-in_default-clause-named : goal.returns-in_default-clause-named
returns-in_default-clause-named g c = λ model shown scopes.
    let rows = c.holds_one.ensures.rows model shown MemberRef in
    let there : HasRow model MemberRef c.args.row = (c.requires.first, omega (arith, rows, c.requires.last)) in
    parent_named scopes model (c.holds_one.ensures.valid model shown) c.args.row c.member_parent-parent.result there (c.member_parent-parent.ensures.parent model shown) c.in_default.not-MethodDef
