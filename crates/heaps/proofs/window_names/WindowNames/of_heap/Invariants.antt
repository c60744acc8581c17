use Rattle.heaps.proofs.Prelude.{◌<◌, ◌-◌, length, AreNames, HavePositions}
use Rattle.heaps.proofs.window_names.WindowNames.of_heap.Given as goal

abbrev pub invariant-loop-windows : goal.invariant-loop-windows
invariant-loop-windows l = record {
  width : 0 < l.windows.width;
  positions : HavePositions (length l.heap) l.windows;
  names : AreNames l.heap l.windows.width l.windows.names.items;
}

abbrev pub decreases-loop-windows : goal.decreases-loop-windows
decreases-loop-windows l = l.least - l.windows.width
