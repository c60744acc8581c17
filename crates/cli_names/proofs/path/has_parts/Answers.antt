use Rattle.cli_names.proofs.Prelude.{◌≡◌, ◌+◌, ◌-◌, ◌<◌, ℕ, suc, List, [], length, map, arith, subst, sym, Bor, get_or-map, HasOwnName}
use Rattle.cli_names.proofs.PathLemmas.{part_more}
use Rattle.cli_names.proofs.path.has_parts.Goals as goal

pub returns-in_default : goal.returns-in_default
returns-in_default c = λ model is. (
  (λ yes. absurd cc),
  (λ has.
      let below = c.loop-below-test.true in
      let same : length c.args.parts.now - c.loop-below.below ≡ suc (length c.args.parts.now - 1 - c.loop-below.below) = omega (arith, below) in
      absurd (rw (same, c.in_default.is) at ((c.loop-below.invariant.same model is).0 has))),
)

pub returns-then-not-has_own_name : goal.returns-then-not-has_own_name
returns-then-not-has_own_name c = λ model is. (
  (λ yes. absurd cc),
  (λ has.
      let parts = c.args.parts.now in
      let below = c.loop-below-test.true in
      let k = length parts - 1 - c.loop-below.below in
      let lt : k < length parts = omega (arith, below) in
      let same : length parts - c.loop-below.below ≡ suc k = omega (arith, below) in
      let named = rw (same, c.in-Some.is) at ((c.loop-below.invariant.same model is).0 has) in
      let yes = (c.has_own_name.ensures model is).1 (subst (λ (t : List ℕ). HasOwnName model c.args.table t c.in-Some.inner) (get_or-map (λ (part : Bor (List ℕ)). part.now) parts k _ [] lt) named.0) in
      let no = c.if-not-has_own_name.true in
      absurd cc),
)

pub loop-below-preserved : goal.loop-below-preserved
loop-below-preserved c = record {
  first = c.outer_row-left.ensures.first;
  last = c.outer_row-left.ensures.last;
  same = λ model is.
      let parts = c.args.parts.now in
      let inner = c.in-Some.inner in
      let below = c.loop-below-test.true in
      let k = length parts - 1 - c.loop-below.below in
      let lt : k < length parts = omega (arith, below) in
      let same : length parts - c.loop-below.below ≡ suc k = omega (arith, below) in
      let next : length parts - (c.loop-below.below + 1) ≡ k = omega (arith, below) in
      let here = rw (same, c.in-Some.is) at (c.loop-below.invariant.same model is) in
      let own = (c.has_own_name.ensures model is).0 c.if-not-has_own_name.false in
      let name = subst (λ (t : List ℕ). HasOwnName model c.args.table t inner) (sym (get_or-map (λ (part : Bor (List ℕ)). part.now) parts k _ [] lt)) own in
      let more = part_more model c.args.table inner (map (λ (part : Bor (List ℕ)). part.now) parts) k c.outer_row-left.result (c.outer_row-left.ensures.around model is) in
      rw next ((λ x. (more.0 (here.0 x)).1), (λ y. here.1 (more.1 (name, y))));
}
