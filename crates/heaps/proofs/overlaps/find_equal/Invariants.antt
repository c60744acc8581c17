use Rattle.heaps.proofs.Prelude.{◌≡◌, ◌<◌, ◌-◌, length, AreEarlierBlobs, AreNames, HavePositions}
use Rattle.heaps.proofs.overlaps.find_equal.Given as goal

abbrev pub invariant-loop-windows : goal.invariant-loop-windows
invariant-loop-windows l = record {
  width : 0 < l.windows.width;
  positions : HavePositions (length l.heap) l.windows;
  names : AreNames l.heap l.windows.width l.windows.names.items;
  len : length l.firsts ≡ length l.fn.firsts;
  earlier : AreEarlierBlobs l.heap l.indexes l.fn.firsts → AreEarlierBlobs l.heap l.indexes l.firsts;
}

abbrev pub decreases-loop-windows : goal.decreases-loop-windows
decreases-loop-windows l = l.longest - l.windows.width
