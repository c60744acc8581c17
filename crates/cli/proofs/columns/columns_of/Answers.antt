use Rattle.cli.proofs.Prelude.{drop, take, suc, take_all, All-nil, All-weaker, NamesIgnored, NamesSome, split_at}
use Rattle.cli.proofs.ColumnsNamed.{named_more}
use Rattle.cli.proofs.columns.columns_of.Goals as goal

pub loop-word-init : goal.loop-word-init
loop-word-init c = record {
  all = All-nil _;
  only = λ table cell_index within marked. let none = c.models_equal_but_for_no_columns_are_equal.ensures.none table cell_index in cc (c.none-ignored.ensures, none);
}

pub returns-in_default-clause-unknown : goal.returns-in_default-clause-unknown
returns-in_default-clause-unknown c =
    let words = c.args.words.now in
    let index = c.loop-word.word-index in (
      take index words,
      drop (suc index) words,
      split_at words index _ c.loop-word-test.true,
      All-weaker (NamesIgnored c.loop-word.ignored) NamesSome (λ word is. (is.0, is.1, is.2)) (take index words) c.loop-word.invariant.all,
      (λ named. c.in_default.ensures.complete named.0 named.1 named.2),
    )

pub loop-word-preserved : goal.loop-word-preserved
loop-word-preserved c =
    named_more c.tables_stand.ensures.stand c.args.words.now c.loop-word.word-index _ c.loop-word-test.true c.loop-word.ignored c.insert.new.self c.in-Some.table c.in-Some.cell_index
    c.in-Some.ensures.sound c.insert.ensures.added c.insert.ensures.others c.loop-word.invariant

pub returns-clause-named : goal.returns-clause-named
returns-clause-named c =
    rw (take_all c.loop-word.word-index c.args.words.now c.loop-word-test.false) at c.loop-word.invariant
