use Rattle.rows.proofs.Prelude.{◌≡◌, ◌≤◌, ◌<◌, ◌-◌, ◌*◌, ◌∙◌, length, ap, ap₂, subst, arith, rules, part, table_index_of, tables, row_start, row_width, tables_end, IsWhole, Stream}
use Rattle.rows.proofs.RowBytesLemmas.{read_in_rows, rows_between, rows_in_order, rows_long, rows_within}
use Rattle.rows.proofs.rows.Rows.row_bytes.Goals as goal

pub bytes_between-requires-clause-order : goal.bytes_between-requires-clause-order
bytes_between-requires-clause-order c =
    let sizes = c.args.self.now.sizes in
    let start : c.row_start-start.result ≡ row_start sizes c.args.table c.args.first = search rules in
    let past : c.row_start-end.result ≡ row_start sizes c.args.table c.args.past = search rules in
    omega (arith, start, past, rows_in_order sizes c.args.table c.args.first c.args.past c.requires.first c.requires.order)

pub bytes_between-requires-clause-within : goal.bytes_between-requires-clause-within
bytes_between-requires-clause-within c =
    let sizes = c.args.self.now.sizes in
    let stand = c.tables_stand.ensures in
    let below : table_index_of c.args.table < length tables = omega (arith, stand.count, stand.table_index c.args.table) in
    let past : c.row_start-end.result ≡ row_start sizes c.args.table c.args.past = search rules in
    let bytes : c.self.inside.bytes.now ≡ c.args.self.now.bytes = ap (λ s. s.bytes) c.self.view_is in
    let whole : IsWhole c.args.self.now = subst (λ (stream : Stream). IsWhole stream) c.self.view_is c.self.invariant in
    let ends = rows_within sizes c.args.table c.args.first c.args.past c.requires.first c.requires.order below (stand.stand c.args.table) c.requires.last in
    omega (arith, past, whole, ends, ap length bytes)

pub returns-clause-value : goal.returns-clause-value
returns-clause-value c =
    let sizes = c.args.self.now.sizes in
    let start : c.row_start-start.result ≡ row_start sizes c.args.table c.args.first = search rules in
    let past : c.row_start-end.result ≡ row_start sizes c.args.table c.args.past = search rules in
    let bytes : c.self.inside.bytes.now ≡ c.args.self.now.bytes = ap (λ s. s.bytes) c.self.view_is in
    let between = rows_between sizes c.args.table c.args.first c.args.past c.requires.first c.requires.order in
    let count : c.row_start-end.result - c.row_start-start.result ≡ (c.args.past - c.args.first) * row_width sizes c.args.table =
    ap₂ (λ p s. p - s) past start ∙ between in
    c.bytes_between.ensures ∙ ap (λ l. part l c.row_start-start.result (c.row_start-end.result - c.row_start-start.result)) bytes
    ∙ ap₂ (λ s n. part c.args.self.now.bytes s n) start count

pub returns-clause-len : goal.returns-clause-len
returns-clause-len c =
    let stand = c.tables_stand.ensures in
    let below : table_index_of c.args.table < length tables = omega (arith, stand.count, stand.table_index c.args.table) in
    let whole : IsWhole c.args.self.now = subst (λ (stream : Stream). IsWhole stream) c.self.view_is c.self.invariant in
    rows_long c.args.self.now.sizes c.args.table c.args.first c.args.past c.requires.first c.requires.order below (stand.stand c.args.table) c.requires.last
    c.args.self.now.bytes c.bytes_between.result.now whole (returns-clause-value c)

pub returns-clause-numbers : goal.returns-clause-numbers
returns-clause-numbers c =
    let stand = c.tables_stand.ensures in
    let below : table_index_of c.args.table < length tables = omega (arith, stand.count, stand.table_index c.args.table) in
    let whole : IsWhole c.args.self.now = subst (λ (stream : Stream). IsWhole stream) c.self.view_is c.self.invariant in
    read_in_rows c.args.self.now.sizes c.args.table c.args.first c.args.past c.requires.first c.requires.order below (stand.stand c.args.table) c.requires.last
    c.args.self.now.bytes c.bytes_between.result.now whole (returns-clause-value c)
