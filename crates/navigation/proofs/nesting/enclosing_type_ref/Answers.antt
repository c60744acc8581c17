use Rattle.navigation.proofs.Prelude.{◌≡◌, rules, TypeRef}
use Rattle.navigation.proofs.nesting.enclosing_type_ref.Goals as goal

pub returns-clause-last : goal.returns-clause-last
returns-clause-last g c =
    let same : c.in_ok-scope.scope.table ≡ TypeRef = search rules in rw same at c.in_ok-scope.ensures.there.1
