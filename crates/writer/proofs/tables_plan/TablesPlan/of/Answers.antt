use Rattle.writer.proofs.Prelude.{◌≡◌, ℕ, List, get_or, sym, ap, ◌∙◌, TableId, tables, table_index_of, Sizes, count_of, tables_bytes, Metadata, count_in, numbers, sizes_of, table_header, flat, IsTablesPlan}
use Rattle.writer.specs.Outlined.{Describes}
use Rattle.schema.proofs.TableLayoutLemmas.{last_end}
use Rattle.writer.proofs.TableLemmas.{AreAlike, AreFound, count_is, stream_long, end_alike}
use Rattle.writer.proofs.PlanLemmas.{counts_are, body_is, sorted_is, stream_is}
use Rattle.writer.proofs.tables_plan.TablesPlan.of.Goals as goal
use Rattle.writer.proofs.tables_plan.TablesPlan.of.Goals.{After-row_start-len}

-- each table has the row count of the model
each : (c : After-row_start-len) (model : Metadata) → Describes c.args.outline.now model → (table : TableId) → count_of c.of-layout.result table ≡ count_in model table
each c model described table = c.of-layout.ensures.each table ∙ described.counts table

plan_is : (c : After-row_start-len) (model : Metadata) → Describes c.args.outline.now model → c.args.heap_sizes ≡ (sizes_of model).heap_sizes
    → IsTablesPlan model (record { layout = c.of-layout.result; heap_sizes = c.args.heap_sizes; sorted = c.args.outline.now.sorted; len = c.row_start-len.result })
plan_is c model described is =
    let found : AreFound flat = record { back = c.numbers_are_put.ensures.back; many = c.numbers_are_put.ensures.many } in
    let sizes : Sizes = c.of-layout.result in
    let counts = described.counts in
    let value = c.of-layout.ensures.value in
    let widths : sizes.heap_sizes ≡ (sizes_of model).heap_sizes = ap (λ (s : Sizes). s.heap_sizes) value ∙ is in
    let same = λ (table : TableId). each c model described table ∙ sym (count_is model table) in
    let alike : AreAlike sizes (sizes_of model) = record {
      counts = same;
      widths = c.widths_follow_from_counts.ensures.width sizes (sizes_of model) (record { counts = same; heap_sizes = widths });
      body = ap (λ (s : Sizes). s.body) value ∙ body_is model c.args.outline.now.counts c.args.heap_sizes counts;
    } in
    record {
      counts = ap (λ (s : Sizes). s.counts) value ∙ counts_are model c.args.outline.now.counts c.args.heap_sizes counts;
      widths = widths;
      heap_sizes = is;
      sorted = described.sorted ∙ sym (sorted_is model);
      len = c.row_start-len.ensures ∙ last_end sizes c.count.result c.count.ensures.value ∙ end_alike sizes (sizes_of model) alike ∙ sym (stream_long found model);
    }

pub returns-clause-plan : goal.returns-clause-plan
returns-clause-plan c model described is = plan_is (goal.at.returns-clause-plan c).After-row_start-len model described is

pub returns-clause-many : goal.returns-clause-many
returns-clause-many c model described =
    c.numbers_are_put.ensures.many model c.of-layout.result (each (goal.at.returns-clause-many c).After-row_start-len model described)

pub returns-clause-stream : goal.returns-clause-stream
returns-clause-stream c model described heap_sizes =
    let at = (goal.at.returns-clause-stream c).After-row_start-len in
    let is = plan_is at model described heap_sizes in
    let layout : Sizes = c.of-layout.result in
    let alike = λ (table : TableId). ap (λ (counts : List ℕ). get_or counts (table_index_of table) 0) is.counts in
    let header = ap (λ n. table_header n c.args.outline.now.sorted layout) is.heap_sizes ∙ ap (λ n. table_header (sizes_of model).heap_sizes n layout) is.sorted
    ∙ sym (c.table_headers_are_put.ensures model layout is.counts) in
    let rows = ap (tables_bytes layout tables) (c.numbers_are_put.ensures.back model layout (each at model described))
    ∙ c.widths_follow_from_counts.ensures.tables layout (sizes_of model) (record { counts = alike; heap_sizes = is.widths }) tables (numbers model) in
    stream_is model _ _ c.row_start-len.result header rows is.len
