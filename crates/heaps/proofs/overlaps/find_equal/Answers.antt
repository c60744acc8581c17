use Rattle.heaps.proofs.Prelude.{All, sym, subst, ◌∙◌, arith, HavePositions, IsKey}
use Rattle.heaps.proofs.overlaps.find_equal.Goals as goal

pub double-requires-clause-positions : goal.double-requires-clause-positions
double-requires-clause-positions c =
    let kept = c.loop-windows.invariant.positions in
    subst (λ n. HavePositions n c.loop-windows.windows) (sym kept.names.len) kept

pub loop-windows-preserved : goal.loop-windows-preserved
loop-windows-preserved c =
    let kept = c.loop-windows.invariant in
    let count = kept.positions.names.len in
    let heap = c.args.heap.now in
    let indexes = c.args.indexes.now in
    let width = c.double.new.self.width in
    record {
      width = omega (arith, c.double.ensures.width, kept.width);
      positions = subst (λ n. HavePositions n c.double.new.self) count c.double.ensures.positions;
      names = c.double.ensures.names heap (sym count) kept.names;
      len = c.set_firsts.ensures.len ∙ kept.len;
      earlier = λ old. c.set_firsts.ensures.earlier heap indexes width (subst (All (IsKey heap indexes width)) (sym c.deref.ensures.value) c.in_ok-keys.ensures) (kept.earlier old);
    }
