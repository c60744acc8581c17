use Rattle.std.proofs.Common.{false, Option, ◌∙◌, ap, subst, arith}
use Rattle.full_names.proofs.Prelude.{not_there, MemberRef, Token, cell_columns, Ref, HasRow, MayRefer}
use Rattle.full_names.proofs.RowNameLemmas.{parent_there}
use Rattle.full_names.proofs.row_names.member_parent.Goals as goal

pub unreachable-requires : goal.unreachable-requires
unfolding cell_columns
unreachable-requires g c = not_there c.holds_one.ensures.shown (λ some.
    let model = some.0 in
    let count = c.holds_one.ensures.rows model some.1 MemberRef in
    let last = c.requires.last in
    let there : HasRow model MemberRef c.args.row = (c.requires.first, omega arith) in
    let refers = parent_there model (c.holds_one.ensures.valid model some.1) c.args.row there c.reference.result (c.reference.ensures.value model some.1) in
    let null = subst (λ (r : Option Token). MayRefer model false (Ref r)) c.in-None.is refers in
    absurd cc)

pub returns-clause-parent : goal.returns-clause-parent
returns-clause-parent g c = λ model shown. c.reference.ensures.value model shown ∙ ap (λ (r : Option Token). Ref r) c.in-Some.is
