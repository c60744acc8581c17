use Rattle.rows.proofs.Prelude.{◌≡◌, ◌∙◌, ◌<◌, length, sym, subst, rules, arith, table_index_of, tables, cell_start, StandsAt, number_bytes, number_in, cell_width}
use Rattle.rows.proofs.OffsetLemmas.{offset_behind}
use Rattle.rows.proofs.rows.Rows.place.Goals as goal

pub returns-clause-behind : goal.returns-clause-behind
returns-clause-behind c = λ numbers laid.
    let stream = c.args.self.now in
    let value : c.cell_start.result ≡ cell_start stream.sizes c.args.table c.args.row c.args.column = search rules in
    let stand = c.tables_stand.ensures in
    let below : table_index_of c.args.table < length tables = omega (arith, stand.count, stand.table_index c.args.table) in
    value ∙ offset_behind stream.bytes stream.sizes numbers c.args.table c.args.row c.args.column below (stand.stand c.args.table) c.requires.first c.requires.last c.requires.column laid

pub returns-clause-stands : goal.returns-clause-stands
returns-clause-stands c = λ numbers laid.
    let stream = c.args.self.now in
    let value : c.cell_start.result ≡ cell_start stream.sizes c.args.table c.args.row c.args.column = search rules in
    let here = number_bytes (cell_width stream.sizes c.args.table c.args.column) (number_in numbers c.args.table c.args.row c.args.column) in
    subst (λ offset. StandsAt stream.bytes offset here) (sym value)
    (c.cells_stand.ensures stream.bytes stream.sizes numbers laid c.args.table c.args.row c.args.column c.requires.first c.requires.last c.requires.column).stands
