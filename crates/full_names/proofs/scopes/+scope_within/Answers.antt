use Rattle.full_names.proofs.ScopeLemmas.{enclosed_scope, outermost, too_deep}
use Rattle.full_names.proofs.scopes.+scope_within.Goals as goal

pub returns-then-depth-eq0-clause-scope : goal.returns-then-depth-eq0-clause-scope
returns-then-depth-eq0-clause-scope g t c = λ model shown. too_deep model c.args.row c.args.depth c.if-depth-eq0.true

pub returns-in-Some-clause-scope : goal.returns-in-Some-clause-scope
returns-in-Some-clause-scope g t c = λ model shown.
    enclosed_scope model c.args.row c.args.depth c.in-Some.outer c.scope_within.result c.if-depth-eq0.false (c.in-Some.ensures.sound model shown) (c.scope_within.ensures.scope model shown)

pub returns-in-None-clause-scope : goal.returns-in-None-clause-scope
returns-in-None-clause-scope g t c = λ model shown. outermost model c.args.row c.args.depth c.reference.result c.if-depth-eq0.false (c.in-None.ensures.none model shown) (c.reference.ensures.value model shown)
