use Rattle.full_names.proofs.Prelude.{◌≤◌, [], refl, subst, sym, codes, TableId, IsScopeIn, in_brackets}
use Rattle.full_names.proofs.PieceLemmas.{wrote_plain}
use Rattle.full_names.proofs.ScopeLemmas.{no_scope}
use Rattle.full_names.proofs.TextLemmas.{writes_nothing}
use Rattle.full_names.proofs.scopes.write_scope.Goals as goal

pub text-name-requires-clause-last : goal.text-name-requires-clause-last
text-name-requires-clause-last g c = subst (λ (t : TableId). c.args.scope.row ≤ g.S.ReadMetadata.row_count c.args.source.now t) c.in-AssemblyRef.is c.requires.last

pub text-name-requires-in-ModuleRef-clause-last : goal.text-name-requires-in-ModuleRef-clause-last
text-name-requires-in-ModuleRef-clause-last g c = subst (λ (t : TableId). c.args.scope.row ≤ g.S.ReadMetadata.row_count c.args.source.now t) c.in-ModuleRef.is c.requires.last

pub returns-in-AssemblyRef : goal.returns-in-AssemblyRef
returns-in-AssemblyRef g c = λ model shown.
    let own = c.text-name.result.now in
    let is = subst (λ (t : TableId). IsScopeIn model t c.args.scope.row (in_brackets (codes "[") own)) (sym c.in-AssemblyRef.is) (own, c.text-name.ensures model shown, refl) in
    wrote_plain g.W.Write.write_str_gives (IsScopeIn model c.args.scope.table c.args.scope.row) _ _ c.write_in_brackets.result (in_brackets (codes "[") own) is c.write_in_brackets.ensures

pub returns-in-ModuleRef : goal.returns-in-ModuleRef
returns-in-ModuleRef g c = λ model shown.
    let own = c.text-name-in-ModuleRef.result.now in
    let is = subst (λ (t : TableId). IsScopeIn model t c.args.scope.row (in_brackets (codes "[.module ") own)) (sym c.in-ModuleRef.is) (own, c.text-name-in-ModuleRef.ensures model shown, refl) in
    wrote_plain g.W.Write.write_str_gives (IsScopeIn model c.args.scope.table c.args.scope.row) _ _ c.write_in_brackets-in-ModuleRef.result (in_brackets (codes "[.module ") own) is c.write_in_brackets-in-ModuleRef.ensures

pub returns-in_default : goal.returns-in_default
returns-in_default g c = λ model shown. ([], no_scope model c.args.scope.table c.args.scope.row c.in_default.not-AssemblyRef c.in_default.not-ModuleRef, writes_nothing g.W.Write.write_str_gives c.args.out.now)
