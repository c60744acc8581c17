use Rattle.signatures.proofs.Prelude.{◌≡◌, ◌+◌, ◌*◌, ◌-◌, map, length, many_at, typed_at, core_at, params_at, type_of, slot_of}
use Rattle.signatures.proofs.Items.{with_head}
use Rattle.signatures.proofs.Parameters.{with_params, still}
use Rattle.signatures.proofs.+build.Given as goal

abbrev pub decreases-types::core : goal.decreases-types::core
decreases-types::core l = 8 * l.depth

abbrev pub decreases-types::core_behind : goal.decreases-types::core_behind
decreases-types::core_behind l = 8 * l.depth + 7

abbrev pub decreases-types::typed : goal.decreases-types::typed
decreases-types::typed l = 8 * l.depth + 1

abbrev pub decreases-types::types : goal.decreases-types::types
decreases-types::types l = 8 * l.depth + 2

abbrev pub decreases-types::pointer : goal.decreases-types::pointer
decreases-types::pointer l = 8 * l.depth + 1

abbrev pub decreases-types::vector : goal.decreases-types::vector
decreases-types::vector l = 8 * l.depth + 2

abbrev pub decreases-types::array : goal.decreases-types::array
decreases-types::array l = 8 * l.depth + 2

abbrev pub decreases-types::instance : goal.decreases-types::instance
decreases-types::instance l = 8 * l.depth + 3

abbrev pub decreases-slots::content : goal.decreases-slots::content
decreases-slots::content l = 8 * l.depth + 1

abbrev pub decreases-slots::slot : goal.decreases-slots::slot
decreases-slots::slot l = 8 * l.depth + 2

abbrev pub decreases-slots::ret : goal.decreases-slots::ret
decreases-slots::ret l = 8 * l.depth + 2

abbrev pub decreases-methods::params : goal.decreases-methods::params
decreases-methods::params l = 8 * l.depth + 3

abbrev pub decreases-methods::method : goal.decreases-methods::method
decreases-methods::method l = 8 * l.depth + 4

abbrev pub decreases-methods::function : goal.decreases-methods::function
decreases-methods::function l = 8 * l.depth + 5

abbrev pub invariant-types::types-loop-done : goal.invariant-types::types-loop-done
invariant-types::types-loop-done l =
    with_head (map type_of l.all.items) (many_at (typed_at (core_at l.depth)) (l.count - l.done) l.tail) ≡ many_at (typed_at (core_at l.depth)) l.count l.bytes

abbrev pub invariant-methods::params-loop-done : goal.invariant-methods::params-loop-done
invariant-methods::params-loop-done l = record {
  so_far : with_params (map slot_of l.all.items) l.before (params_at (core_at l.depth) (still l.allowed l.before) (l.count - l.done) l.tail)
      ≡ params_at (core_at l.depth) l.allowed l.count l.bytes;
  count : length (map slot_of l.all.items) ≡ l.done;
}
