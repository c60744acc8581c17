use Rattle.navigation.proofs.Prelude.{◌∙◌, None, Option, Some, ap, rules, subst, sym, ∥∥₁_elim, not_there, le_prop, ColumnKind, Token, Ref, IsOfKind}
use Rattle.navigation.proofs.CellLemmas.{to_row}
use Rattle.navigation.proofs.cells.target.Goals as goal

pub reference-requires-clause-kind : goal.reference-requires-clause-kind
reference-requires-clause-kind g c = subst (λ (k : ColumnKind). IsOfKind k (Ref None)) (sym c.requires.kind) (search rules)

pub unreachable-requires : goal.unreachable-requires
unreachable-requires g c = not_there c.holds_one.ensures.shown (λ some.
    to_row some.0 (c.holds_one.ensures.valid some.0 some.1) c.args.of c.args.table c.args.row c.args.cell _ (c.holds_one.ensures.rows some.0 some.1 c.args.table) c.requires.first c.requires.last c.requires.cell
    c.requires.kind c.requires.named c.reference.result None (c.reference.ensures.value some.0 some.1) c.in-None.is)

pub returns-clause-value : goal.returns-clause-value
returns-clause-value g c = λ model shown.
    let is = to_row model (c.holds_one.ensures.valid model shown) c.args.of c.args.table c.args.row c.args.cell _ (c.holds_one.ensures.rows model shown c.args.table) c.requires.first c.requires.last c.requires.cell
    c.requires.kind c.requires.named c.reference.result (Some c.in-Some.found) (c.reference.ensures.value model shown) c.in-Some.is in
    c.reference.ensures.value model shown ∙ ap (λ (r : Option Token). Ref r) c.in-Some.is ∙ ap (λ (t : Token). Ref (Some t)) is.0

pub returns-clause-last : goal.returns-clause-last
returns-clause-last g c = ∥∥₁_elim c.holds_one.ensures.shown le_prop (λ some.
    let is = to_row some.0 (c.holds_one.ensures.valid some.0 some.1) c.args.of c.args.table c.args.row c.args.cell _ (c.holds_one.ensures.rows some.0 some.1 c.args.table) c.requires.first c.requires.last c.requires.cell
    c.requires.kind c.requires.named c.reference.result (Some c.in-Some.found) (c.reference.ensures.value some.0 some.1) c.in-Some.is in
    rw (c.holds_one.ensures.rows some.0 some.1 c.args.of) at is.1.1)
