use Rattle.cli_regions.proofs.Prelude.{◌∙◌, ◌+◌, ◌∷◌, ◌++◌, ap, arith, codes, drop, get_or, sym, drop_all, drop_more, counts_from, table_words, field_region, and_then, said_as, more_left, none_left, table_stream_regions}
use Rattle.table_schema.specs.declared.table.TableId.TheVariants.{Module}
use Rattle.cli_regions.proofs.headers.find_table_stream.Goals as goal

pub loop-table-preserved : goal.loop-table-preserved
loop-table-preserved c =
    let loop = c.loop-table in
    let i = loop.table-index in
    let tables = c.all-tables.result.now in
    let valid = c.u64_at-valid.result in
    let size = sym c.count_size-size.ensures.value in
    record {
      left = more_left _ _ loop.invariant.left
          (ap (counts_from valid loop.next) (drop_more tables i Module c.loop-table-test.true)
          ∙ (λ k. field_region loop.next (size k) (codes "row count" ++ (codes " " ++ table_words (get_or tables i Module))) ∷ counts_from valid (loop.next + size k) (drop (i + 1) tables)))
          c.look_field.ensures;
      low = omega (arith, loop.invariant.low, c.count_size-size.ensures.few);
    }

pub returns : goal.returns
unfolding table_stream_regions
returns c =
    let loop = c.loop-table in
    let tables = c.all-tables.result.now in
    let valid = c.u64_at-valid.result in
    let counts = said_as (none_left _ loop.invariant.left (ap (counts_from valid loop.next) (drop_all loop.table-index tables c.loop-table-test.false)))
    (ap (counts_from valid (c.args.start + 24)) c.all-tables.ensures.value) in
    rw (← c.u64_at-valid.ensures.value) (and_then c.find_fields.ensures counts)
