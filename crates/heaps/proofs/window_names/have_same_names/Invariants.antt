use Rattle.heaps.proofs.Prelude.{◌≡◌, ◌-◌, ℕ, List, AreNames, window}
use Rattle.heaps.proofs.window_names.have_same_names.Given as goal

abbrev pub invariant-loop-step : goal.invariant-loop-step
invariant-loop-step l = record {
  same : (heap : List ℕ) → AreNames heap l.width l.names → window heap l.step l.first ≡ window heap l.step l.second;
}

abbrev pub decreases-loop-step : goal.decreases-loop-step
decreases-loop-step l = l.len - l.step
