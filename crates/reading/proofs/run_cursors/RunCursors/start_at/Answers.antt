use Rattle.reading.proofs.StartCells.{start_in_cell}
use Rattle.reading.proofs.run_cursors.RunCursors.start_at.Goals as goal

pub returns-clause-start : goal.returns-clause-start
returns-clause-start c =
    start_in_cell c.args.source.now.source c.args.list c.args.row c.requires.first c.requires.last c.owner.result c.member.result c.cell.result c.start.result
    c.owner.ensures c.cell.ensures.value c.member.ensures.value c.start.ensures.start
