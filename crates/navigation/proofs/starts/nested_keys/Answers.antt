use Rattle.navigation.proofs.Prelude.{◌∙◌, ◌+◌, length, ap, sym, arith, length_push, NestedClass, column_of, number_of, source_of}
use Rattle.navigation.proofs.StartLemmas.{one_more}
use Rattle.navigation.proofs.starts.nested_keys.Goals as goal

pub loop-earlier-init : goal.loop-earlier-init
loop-earlier-init c = record {
  long = ap length c.in_ok-keys.ensures.items;
  are = λ k within. absurd (let none = ap length c.in_ok-keys.ensures.items in omega (arith, within, none));
}

pub loop-earlier-preserved : goal.loop-earlier-preserved
loop-earlier-preserved c =
    let keys = c.loop-earlier.keys.items in
    let key = c.key.result in
    let pushed = c.in_ok-push.ensures.items in
    record {
      long = ap length pushed ∙ length_push keys key ∙ ap (λ n. n + 1) c.loop-earlier.invariant.long;
      are = rw pushed (one_more (λ k. number_of (source_of c.args.view.now) NestedClass (k + 1) (column_of NestedClass 0)) keys key c.loop-earlier.earlier c.loop-earlier.invariant.long c.loop-earlier.invariant.are (sym c.key.ensures));
    }
