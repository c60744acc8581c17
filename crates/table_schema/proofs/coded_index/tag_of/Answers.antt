use Rattle.std.proofs.Common.{◌≢◌, ◌∙◌, Some, sym}
use borrow.Author.Count.{below_more}
use Rattle.std.specs.List.{slice_get}
use Rattle.table_schema.specs.CodedIndexes.{tables_of}
use Rattle.table_schema.proofs.CodedLemmas.{lists_no_more, meets, misses}
use Rattle.table_schema.proofs.coded_index.tag_of.Goals as goal

pub returns-then-eq-clause-sound : goal.returns-then-eq-clause-sound
returns-then-eq-clause-sound c =
    meets (tables_of c.args.coded) c.tables-listed-items.result.now c.loop-tag.tag _ c.args.table c.tables-listed-items.ensures c.loop-tag-test.true (sym c.eq.ensures ∙ c.if-eq.true)

pub loop-tag-preserved : goal.loop-tag-preserved
loop-tag-preserved c =
    let here = misses (tables_of c.args.coded) c.tables-listed-items.result.now c.loop-tag.tag _ c.args.table c.tables-listed-items.ensures (sym c.eq.ensures ∙ c.if-eq.false) in
    below_more (λ k. slice_get (tables_of c.args.coded) k ≢ Some (Some c.args.table)) c.loop-tag.tag c.loop-tag.invariant here

pub returns-clause-none : goal.returns-clause-none
returns-clause-none c = lists_no_more (tables_of c.args.coded) c.tables-listed-items.result.now c.loop-tag.tag c.args.table c.tables-listed-items.ensures c.loop-tag-test.false c.loop-tag.invariant
