use Rattle.full_names.proofs.Prelude.{◌≤◌, ◌++◌, List, ℕ, refl, subst, sym, codes, TableId, MemberRef, Dotted, Member, name_text, IsNameIn, IsNameUnder, IsMemberName}
use Rattle.full_names.proofs.PieceLemmas.{on_wrote}
use Rattle.full_names.proofs.RowNameLemmas.{named_under}
use Rattle.full_names.proofs.row_names.write_member_ref.Goals as goal

pub type_of_method-requires-clause-last : goal.type_of_method-requires-clause-last
type_of_method-requires-clause-last g c = subst (λ (t : TableId). c.member_parent-parent.result.row ≤ g.S.ReadMetadata.row_count c.args.source.now t) c.in-MethodDef.is c.member_parent-parent.ensures.last

pub text-module-requires-clause-last : goal.text-module-requires-clause-last
text-module-requires-clause-last g c = subst (λ (t : TableId). c.member_parent-parent.result.row ≤ g.S.ReadMetadata.row_count c.args.source.now t) c.in-ModuleRef.is c.member_parent-parent.ensures.last

pub returns-in-MethodDef : goal.returns-in-MethodDef
returns-in-MethodDef g c = λ model shown.
    let parent = c.member_parent-parent.result in
    let own = c.text-name.result.now in
    on_wrote g.W.Write.write_str_gives (IsMemberName g.L.Limit.scopes model c.type_token-class.result own) (IsNameIn g.L.Limit.scopes model MemberRef c.args.row) _ _ c.write_member_name.result (c.write_member_name.ensures model shown)
    (λ text is. (
      parent,
      c.member_parent-parent.ensures.parent model shown,
      own,
      c.text-name.ensures model shown,
      subst (λ (t : TableId). IsNameUnder g.L.Limit.scopes model t parent.row own text) (sym c.in-MethodDef.is)
          (c.type_token-class.result, (c.type_of_method.result, c.type_of_method.ensures.sound model shown, c.type_token-class.ensures), is),
    ))

pub returns-in_ok-write_global_name-in-ModuleRef : goal.returns-in_ok-write_global_name-in-ModuleRef
returns-in_ok-write_global_name-in-ModuleRef g c = λ model shown.
    let parent = c.member_parent-parent.result in
    let own = c.text-name.result.now in
    let module_name = name_text Dotted c.text-module.result.now in
    let text : List ℕ = module_name ++ (codes "::" ++ name_text Member own) in (
      text,
      (
        parent,
        c.member_parent-parent.ensures.parent model shown,
        own,
        c.text-name.ensures model shown,
        subst (λ (t : TableId). IsNameUnder g.L.Limit.scopes model t parent.row own text) (sym c.in-ModuleRef.is) (module_name, (c.text-module.result.now, c.text-module.ensures model shown, refl), refl),
      ),
      c.in_ok-write_global_name-in-ModuleRef.ensures,
    )

pub returns-in_default : goal.returns-in_default
returns-in_default g c = λ model shown.
    let parent = c.member_parent-parent.result in
    let own = c.text-name.result.now in
    on_wrote g.W.Write.write_str_gives (IsMemberName g.L.Limit.scopes model parent own) (IsNameIn g.L.Limit.scopes model MemberRef c.args.row) _ _ c.write_member_name-in_default.result (c.write_member_name-in_default.ensures model shown)
    (λ text is. (parent, c.member_parent-parent.ensures.parent model shown, own, c.text-name.ensures model shown, named_under g.L.Limit.scopes model parent.table parent.row own text c.in_default.not-MethodDef c.in_default.not-ModuleRef is))
