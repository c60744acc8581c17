use Rattle.cli_where.proofs.Prelude.{finds_joined, finds_none, ◌+◌, ◌≤◌, ◌∷◌, [], None, Some, arith, refl, AreCellsAt}
use Rattle.cli_regions.specs.Regions.{cell as is_cell}
use Rattle.cli_where.proofs.walk.find_cell.Goals as goal

pub returns-then-offset-start : goal.returns-then-offset-start
returns-then-offset-start c =
    finds_none _ c.args.found.now (None, (λ table row column from cell. absurd (omega (arith, from, c.if-offset-start.true, c.offset-offset.ensures))), refl)

pub returns-in-Some : goal.returns-in-Some
returns-in-Some c =
    let from : c.args.start ≤ c.args.found.now.offset = omega (arith, c.if-offset-start.false, c.offset-offset.ensures) in
    finds_joined {AreFound = AreCellsAt c.args.layout.now c.args.start} (
      Some c.in-Some.cell,
      (from, rw c.offset-offset.ensures at c.in-Some.ensures.sound),
      (λ i. record { start = c.args.start + c.cell_start.ensures.value i; size = c.cell_width-size.ensures.value i; what = is_cell c.in-Some.cell } ∷ []),
    )
    c.keep.ensures

pub returns-in_default : goal.returns-in_default
returns-in_default c =
    finds_none _ c.args.found.now (None, (λ table row column from cell. c.in_default.ensures.none table row column (rw c.offset-offset.ensures cell)), refl)
