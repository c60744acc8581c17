use Rattle.rows.proofs.Prelude.{◌≡◌, ℕ, ◌+◌, ◌-◌, ◌/◌, List, length, refl, ap, ◌∙◌, arith, key_at}
use Rattle.rows.proofs.HalvingLemmas.{digits_few, halves_whole, halves_more, key_rises}
use Rattle.rows.proofs.keys.first_at_least.Goals as goal

pub loop-low-init : goal.loop-low-init
loop-low-init g c =
    let count = c.count-high.ensures.value in
    record {
      same = refl;
      from = omega arith;
      ordered = omega (arith, c.requires.to);
      to = omega arith;
      below = c.requires.below;
      above = λ row low high. absurd (omega arith);
      halves = halves_whole _ (g.K.Keys.asked c.args.keys.now) (length (g.K.Keys.keys c.args.keys.now)) (omega (arith, c.requires.from));
    }

pub loop-low-preserved-then-from-limit : goal.loop-low-preserved-then-from-limit
loop-low-preserved-then-from-limit g c =
    let inv = c.loop-low.invariant in
    let keys = g.K.Keys.keys c.args.keys.now in
    let middle : ℕ = c.loop-low.low + (c.loop-low.high - c.loop-low.low) / 2 in
    let value : c.key.result ≡ key_at keys middle = c.key.ensures.value ∙ ap (λ (ks : List ℕ). key_at ks middle) inv.same in
    let from = inv.from in
    let to = inv.to in
    record {
      same = c.key.ensures.same ∙ inv.same;
      from = omega arith;
      ordered = omega arith;
      to = to;
      below = λ row some low. let rise = key_rises keys row middle c.requires.sorted (omega arith) (omega arith) (omega (arith, c.requires.from)) in omega arith;
      above = inv.above;
      halves = halves_more (c.loop-low.high - c.loop-low.low) (g.K.Keys.asked c.loop-low.keys) _ _ _ inv.halves (omega arith) (omega arith) c.key.ensures.counted;
    }

pub loop-low-preserved : goal.loop-low-preserved
loop-low-preserved g c =
    let inv = c.loop-low.invariant in
    let keys = g.K.Keys.keys c.args.keys.now in
    let middle : ℕ = c.loop-low.low + (c.loop-low.high - c.loop-low.low) / 2 in
    let value : c.key.result ≡ key_at keys middle = c.key.ensures.value ∙ ap (λ (ks : List ℕ). key_at ks middle) inv.same in
    let from = inv.from in
    let to = inv.to in
    record {
      same = c.key.ensures.same ∙ inv.same;
      from = from;
      ordered = omega arith;
      to = omega arith;
      below = inv.below;
      above = λ row low high. let rise = key_rises keys middle row c.requires.sorted low high (omega (arith, c.requires.from)) in omega arith;
      halves = halves_more (c.loop-low.high - c.loop-low.low) (g.K.Keys.asked c.loop-low.keys) _ _ _ inv.halves (omega arith) (omega arith) c.key.ensures.counted;
    }

pub key-requires-clause-few : goal.key-requires-clause-few
key-requires-clause-few g c =
    let fewer = digits_few (length (g.K.Keys.keys c.args.keys.now)) in
    omega (arith, c.loop-low.invariant.halves.few, c.count-high.ensures.value, c.count-high.ensures.limit, c.requires.few)

pub returns-clause-limit : goal.returns-clause-limit
returns-clause-limit g c =
    let fewer = digits_few (length (g.K.Keys.keys c.args.keys.now)) in
    omega (arith, c.loop-low.invariant.halves.few, c.count-high.ensures.value, c.count-high.ensures.limit)
