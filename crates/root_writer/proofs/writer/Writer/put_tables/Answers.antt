use Rattle.root_writer.proofs.Prelude.{◌≡◌, ◌*◌, ◌<◌, ◌≤◌, List, length, get_or, take, drop, ap, ◌∙◌, length-drop, arith, TableId, Module, tables, columns_of, Sizes}
use Rattle.root_writer.specs.Flat.{cells_of}
use Rattle.root_writer.proofs.RowLemmas.{here_fits, put_next, put_all}
use Rattle.root_writer.proofs.TableLemmas.{next_table, no_table, cells_more, cells_low, within, behind}
use Rattle.root_writer.proofs.writer.Writer.put_tables.Goals as goal

pub overflow_mul-count : goal.overflow_mul-count
overflow_mul-count c =
    let table = get_or c.all-table-items.result.now c.loop-table.table-index Module in
    let few : length c.columns.result.now ≤ 9 = omega (arith, ap length c.columns.ensures, c.columns_stand.ensures.few table) in
    let low = cells_low (length c.columns.result.now) c.count.result few c.count.ensures.limit in
    omega arith

pub split_at-requires : goal.split_at-requires
split_at-requires c =
    let sizes : Sizes = c.args.layout.now in
    let i = c.loop-table.table-index in
    let table = get_or c.all-table-items.result.now i Module in
    let is : table ≡ get_or tables i Module = ap (λ (listed : List TableId). get_or listed i Module) c.all-table-items.ensures.value in
    let below : i < length tables = omega (arith, ap length c.all-table-items.ensures.value, c.loop-table-test.true) in
    let cells : length c.columns.result.now * c.count.result ≡ cells_of sizes table =
    ap (λ list. length list * c.count.result) c.columns.ensures ∙ ap (λ count. length (columns_of table) * count) c.count.ensures.value in
    within _ _ _ _ _ cells c.loop-table.invariant.many (cells_more sizes i table is below)

pub put_rows-requires : goal.put_rows-requires
put_rows-requires c =
    let sizes : Sizes = c.args.layout.now in
    let i = c.loop-table.table-index in
    let table = get_or c.all-table-items.result.now i Module in
    let is : table ≡ get_or tables i Module = ap (λ (listed : List TableId). get_or listed i Module) c.all-table-items.ensures.value in
    let below : i < length tables = omega (arith, ap length c.all-table-items.ensures.value, c.loop-table-test.true) in
    let cells : length c.columns.result.now * c.count.result ≡ cells_of sizes table =
    ap (λ list. length list * c.count.result) c.columns.ensures ∙ ap (λ count. length (columns_of table) * count) c.count.ensures.value in
    let tail = c.loop-table.tail.now in
    let prefix = c.split_at.ensures.front ∙ ap (λ count. take count tail) cells in
    let back = c.split_at.ensures.back ∙ ap (λ count. drop count tail) cells in
    let split = next_table sizes i table tail c.split_at.result.0.now c.split_at.result.1.now is below prefix back in
    record {
      many = c.split_at.ensures.front_len ∙ cells;
      room = here_fits _ _ _ _ _ _ split c.loop-table.invariant.putting;
    }

pub loop-table-preserved : goal.loop-table-preserved
loop-table-preserved c =
    let sizes : Sizes = c.args.layout.now in
    let i = c.loop-table.table-index in
    let table = get_or c.all-table-items.result.now i Module in
    let is : table ≡ get_or tables i Module = ap (λ (listed : List TableId). get_or listed i Module) c.all-table-items.ensures.value in
    let below : i < length tables = omega (arith, ap length c.all-table-items.ensures.value, c.loop-table-test.true) in
    let cells : length c.columns.result.now * c.count.result ≡ cells_of sizes table =
    ap (λ list. length list * c.count.result) c.columns.ensures ∙ ap (λ count. length (columns_of table) * count) c.count.ensures.value in
    let tail = c.loop-table.tail.now in
    let prefix = c.split_at.ensures.front ∙ ap (λ count. take count tail) cells in
    let back = c.split_at.ensures.back ∙ ap (λ count. drop count tail) cells in
    let split = next_table sizes i table tail c.split_at.result.0.now c.split_at.result.1.now is below prefix back in
    record {
      putting = put_next _ _ _ _ _ _ _ split c.put_rows.ensures c.loop-table.invariant.putting;
      many = ap length back ∙ length-drop (cells_of sizes table) tail ∙ behind _ _ _ _ c.loop-table.invariant.many (cells_more sizes i table is below);
    }

pub returns : goal.returns
returns c =
    let sizes : Sizes = c.args.layout.now in
    let i = c.loop-table.table-index in
    let past : length tables ≤ i = omega (arith, ap length c.all-table-items.ensures.value, c.loop-table-test.false) in
    put_all _ _ _ _ (no_table sizes i c.loop-table.tail.now past) c.loop-table.invariant.putting
