use Rattle.rows.proofs.Prelude.{◌≡◌, ◌∙◌, rules, number_at}
use Rattle.rows.proofs.rows.Rows.number.Goals as goal

pub returns-clause-cell : goal.returns-clause-cell
returns-clause-cell c = λ numbers laid.
    let stream = c.args.self.now in
    let value : c.number_of.result ≡ number_at stream.bytes stream.sizes c.args.table c.args.row c.args.column = search rules in
    value ∙ (c.cells_stand.ensures stream.bytes stream.sizes numbers laid c.args.table c.args.row c.args.column c.requires.first c.requires.last c.requires.column).read
