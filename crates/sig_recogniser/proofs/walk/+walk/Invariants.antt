use Rattle.sig_recogniser.proofs.Prelude.{◌+◌, ◌*◌, ◌-◌, ◌≡◌, left, skip_core, skip_many, skip_typed, skip_params}
use Rattle.sig_recogniser.proofs.walk.+walk.Given as goal

abbrev pub decreases-after_core : goal.decreases-after_core
decreases-after_core l = 16 * l.depth

abbrev pub decreases-after_code : goal.decreases-after_code
decreases-after_code l = 16 * l.depth + 15

abbrev pub decreases-after_modified_type : goal.decreases-after_modified_type
decreases-after_modified_type l = 16 * l.depth + 1

abbrev pub decreases-after_typed : goal.decreases-after_typed
decreases-after_typed l = 16 * l.depth + 2

abbrev pub decreases-after_target : goal.decreases-after_target
decreases-after_target l = 16 * l.depth + 1

abbrev pub decreases-after_array : goal.decreases-after_array
decreases-after_array l = 16 * l.depth + 3

abbrev pub decreases-after_types : goal.decreases-after_types
decreases-after_types l = 16 * l.depth + 3

abbrev pub decreases-after_instance : goal.decreases-after_instance
decreases-after_instance l = 16 * l.depth + 4

abbrev pub decreases-after_content : goal.decreases-after_content
decreases-after_content l = 16 * l.depth + 3

abbrev pub decreases-after_modified_slot : goal.decreases-after_modified_slot
decreases-after_modified_slot l = 16 * l.depth + 4

abbrev pub decreases-after_slot : goal.decreases-after_slot
decreases-after_slot l = 16 * l.depth + 5

abbrev pub decreases-after_void_or : goal.decreases-after_void_or
decreases-after_void_or l = 16 * l.depth + 4

abbrev pub decreases-after_modified_ret : goal.decreases-after_modified_ret
decreases-after_modified_ret l = 16 * l.depth + 5

abbrev pub decreases-after_ret : goal.decreases-after_ret
decreases-after_ret l = 16 * l.depth + 6

abbrev pub decreases-after_params : goal.decreases-after_params
decreases-after_params l = 16 * l.depth + 6

abbrev pub decreases-after_method : goal.decreases-after_method
decreases-after_method l = 16 * l.depth + 7

abbrev pub invariant-after_types-loop-done : goal.invariant-after_types-loop-done
invariant-after_types-loop-done l =
    skip_many (skip_typed l.counts (skip_core l.counts l.depth)) (l.count - l.done) (left l.bytes l.here) ≡ skip_many (skip_typed l.counts (skip_core l.counts l.depth)) l.count (left l.bytes l.fn.here)

abbrev pub invariant-after_params-loop-done : goal.invariant-after_params-loop-done
invariant-after_params-loop-done l =
    skip_params l.counts (skip_core l.counts l.depth) l.allowed (l.count - l.done) (left l.bytes l.here) ≡ skip_params l.counts (skip_core l.counts l.depth) l.fn.allowed l.count (left l.bytes l.fn.here)
