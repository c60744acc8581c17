use Rattle.root_writer.proofs.Prelude.{◌<◌, ◌+◌, Bool, ltb, List, ◌++◌, length, get_or, take, filter, drop, arith, ap, ◌∙◌, length-set, Kind, Tables, size_of, kinds_in_order}
use Rattle.root_writer.proofs.HeldLemmas.{has_bytes, has_none, kept, passed}
use Rattle.root_writer.proofs.held.HeldKinds.new.Goals as goal
use Rattle.root_writer.proofs.held.HeldKinds.new.Goals.{then-size-gt0, else-size-gt0}

pub loop-kind-preserved : goal.loop-kind-preserved
loop-kind-preserved c =
    let test : Kind → Bool = λ kind. ltb 0 (size_of c.args.sizes.now kind) in
    let before = c.loop-kind.invariant in
    let i = c.loop-kind.kind-index in
    let count = c.loop-kind.count in
    let tail : List Kind = filter test (drop (i + 1) kinds_in_order) in
    let room : count < length c.loop-kind.kinds = omega (arith, before.few, before.long, c.loop-kind-test.true) in
    elim c.if-size-gt0.branch [
      | then-size-gt0 w ↦ record {
        whole = ap (λ n. take n c.if-size-gt0.kinds ++ tail) w.count-is
            ∙ ap (λ (list : List Kind). take (count + 1) list ++ tail) w.kinds-is
            ∙ kept test c.loop-kind.kinds _ count i c.loop-kind-test.true room (has_bytes c.size.result _ c.size.ensures w.if-size-gt0.true) before.whole;
        few = omega (arith, w.count-is, before.few);
        long = ap length w.kinds-is ∙ length-set c.loop-kind.kinds count (get_or kinds_in_order i Tables) ∙ before.long;
      }
      | else-size-gt0 w ↦ record {
        whole = ap (λ n. take n c.if-size-gt0.kinds ++ tail) w.count-is
            ∙ ap (λ (list : List Kind). take count list ++ tail) w.kinds-is
            ∙ passed test c.loop-kind.kinds _ count i c.loop-kind-test.true (has_none c.size.result _ c.size.ensures w.if-size-gt0.false) before.whole;
        few = omega (arith, w.count-is, before.few);
        long = ap length w.kinds-is ∙ before.long;
      }
    ]
