use Rattle.file_ranges.proofs.Prelude.{◌+◌, ◌-◌, ◌/◌, arith}
use Rattle.file_ranges.proofs.SizeLemmas.{own_parent, rows_by_parents}
use Rattle.file_ranges.proofs.class_sizes.layout_of.Goals as goal

pub loop-first-preserved-then-parent-row-2 : goal.loop-first-preserved-then-parent-row-2
loop-first-preserved-then-parent-row-2 c =
    let here = c.loop-first.invariant in
    let before = rows_by_parents c.args.source.now.source (c.loop-first.first + (c.loop-first.past - c.loop-first.first) / 2) in
    record {
      from = omega arith;
      ordered = omega arith;
      to = here.to;
      left = λ layout may. (omega (arith, before layout c.requires (omega (arith, here.to)) may.first (omega (arith, c.number-parent.ensures.value, own_parent _ _ _ c.requires may))), (here.left layout may).1);
    }

pub loop-first-preserved : goal.loop-first-preserved
loop-first-preserved c =
    let here = c.loop-first.invariant in
    let middle = c.loop-first.first + (c.loop-first.past - c.loop-first.first) / 2 in
    record {
      from = here.from;
      ordered = omega arith;
      to = omega (arith, here.to);
      left = λ layout may. ((here.left layout may).0, rows_by_parents _ layout middle c.requires may.last (omega (arith, here.from)) (omega (arith, c.number-parent.ensures.value, own_parent _ _ _ c.requires may)));
    }
