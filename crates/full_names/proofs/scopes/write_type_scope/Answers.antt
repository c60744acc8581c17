use Rattle.std.proofs.Common.{[], Some, None, arith, refl, subst}
use Rattle.full_names.proofs.Prelude.{TypeRef, HasRow, IsScopeIn, IsScopeWithin, IsTypeScope}
use Rattle.full_names.proofs.NameExists.{type_scope}
use Rattle.full_names.proofs.PieceLemmas.{on_wrote, passed_over}
use Rattle.full_names.proofs.TextLemmas.{writes_nothing}
use Rattle.full_names.proofs.scopes.write_type_scope.Goals as goal

pub returns-then-is_reached : goal.returns-then-is_reached
returns-then-is_reached g c = λ model shown.
    let rows = c.holds_one.ensures.rows model shown TypeRef in
    let there : HasRow model TypeRef c.args.row = (c.requires.first, omega (arith, rows, c.requires.last)) in
    passed_over g.W.Write.write_str_gives c.args.out.now (IsTypeScope model c.args.row) (c.if-is_reached.ensures refl) (type_scope model (c.holds_one.ensures.valid model shown) c.args.row there)

pub returns-in-Some : goal.returns-in-Some
returns-in-Some g c = λ model shown.
    let scope = c.in-Some.scope in
    let found = subst (IsScopeWithin model 64 c.args.row) c.in-Some.is (c.scope_within.ensures.scope model shown) in
    on_wrote g.W.Write.write_str_gives (IsScopeIn model scope.table scope.row) (IsTypeScope model c.args.row) _ _ c.write_scope.result (c.write_scope.ensures model shown) (λ text is. (Some scope, found, is))

pub returns-in-None : goal.returns-in-None
returns-in-None g c = λ model shown. ([], (None, subst (IsScopeWithin model 64 c.args.row) c.in-None.is (c.scope_within.ensures.scope model shown), refl), writes_nothing g.W.Write.write_str_gives c.args.out.now)
