use Rattle.cell_numbering.proofs.Prelude.{◌≡◌, ◌<◌, Option, Some, None, length, sym, ap, subst, ◌∙◌, arith, IfSome, get_or_read, ColumnBytes, AreIndexesIn}
use Rattle.cell_numbering.proofs.index_columns.index_at.Goals as goal

pub number-requires : goal.number-requires
number-requires g c =
    let table = c.args.table in
    let i = c.args.cell_index in
    let columns = c.args.columns.now in
    let within : i < length columns = omega (arith, c.requires.columns.len, c.requires.cell_index) in
    let is = sym (get_or_read columns i c.index-columns-cell_index.result within c.index-columns-cell_index.is None) ∙ c.in-Some.is in
    let P : Option ColumnBytes → Type 0 = λ o. IfSome o (λ numbers. numbers.count ≡ g.S.ReadMetadata.row_count c.args.source.now table) in
    let count : c.in-Some.numbers.count ≡ g.S.ReadMetadata.row_count c.args.source.now table = subst P is (c.requires.columns.counts i c.requires.cell_index) in
    record { first = c.requires.first; last = omega (arith, c.requires.last, count) }

pub returns-in-Some : goal.returns-in-Some
returns-in-Some g c =
    let table = c.args.table in
    let i = c.args.cell_index in
    let columns = c.args.columns.now in
    let within : i < length columns = omega (arith, c.requires.columns.len, c.requires.cell_index) in
    let is = sym (get_or_read columns i c.index-columns-cell_index.result within c.index-columns-cell_index.is None) ∙ c.in-Some.is in
    let P : Option ColumnBytes → Type 0 = λ o. IfSome o (AreIndexesIn (g.S.ReadCells.heap_index c.args.source.now) table i (g.S.ReadMetadata.row_count c.args.source.now table)) in
    ap Some c.number.ensures ∙ sym (subst P is (c.requires.columns.indexes i c.requires.cell_index) c.args.row c.requires.first c.requires.last)
