use Rattle.navigation.proofs.Prelude.{◌∙◌, Option, ap, ∥∥₁_map, not_there, Ref, cell_in, kind_at, Token}
use Rattle.navigation.proofs.CellLemmas.{of_kind, referred, refers_to, row_there, shows_reference}
use Rattle.navigation.proofs.cells.reference.Goals as goal

pub unreachable-requires : goal.unreachable-requires
unreachable-requires g c = not_there c.holds_one.ensures.shown (λ some.
    shows_reference (kind_at c.args.table c.args.cell) c.cell.result (cell_in some.0 c.args.table c.args.row c.args.cell) (c.cell.ensures some.0 some.1)
    (of_kind some.0 (c.holds_one.ensures.valid some.0 some.1) c.args.table c.args.row c.args.cell _ (c.holds_one.ensures.rows some.0 some.1 c.args.table) c.requires.first c.requires.last c.requires.cell) c.requires.kind c.in_default.not-Ref)

pub returns-clause-there : goal.returns-clause-there
returns-clause-there g c = referred (g.S.ReadMetadata.row_count c.args.source.now) c.in-Ref.reference (∥∥₁_map c.holds_one.ensures.shown (λ some.
    let model = some.0 in
    let there = row_there model c.args.table c.args.row _ (c.holds_one.ensures.rows model some.1 c.args.table) c.requires.first c.requires.last in (
      model,
      c.holds_one.ensures.rows model some.1,
      λ of is. refers_to model (c.holds_one.ensures.valid model some.1) c.args.table c.args.row c.args.cell there
          c.requires.cell of (c.in-Ref.ensures model some.1 ∙ ap (λ (r : Option Token). Ref r) is),
    )))
