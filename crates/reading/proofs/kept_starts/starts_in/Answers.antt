use Rattle.reading.proofs.Prelude.{◌≡◌, ℕ, ◌+◌, ◌-◌, ◌*◌, ◌/◌, refl, sym, subst, ◌∙◌, ap, arith, div-add-mod', mod_below, start_of, IsKnown}
use Rattle.reading.proofs.KnownLemmas.{known_past, known_between}
use Rattle.reading.proofs.StartLemmas.{start_past}
use Rattle.reading.proofs.kept_starts.starts_in.Goals as goal

pub loop-kept-init : goal.loop-kept-init
loop-kept-init c =
    let source = c.args.source.now.source in
    let count = c.count-count.result in
    let step = c.new-known.result.step in
    record {
      step = refl;
      room = c.new-known.ensures.room;
      behind = omega (arith, div-add-mod' count step);
      within = omega arith;
      start = ap (λ (n : ℕ). n + 1) c.count-start.ensures.value
          ∙ sym (start_past source c.args.owner (count + 1) c.args.column c.args.member (omega (arith, c.count-count.ensures.value)));
      known = known_past c.new-known.result (λ row. start_of source c.args.owner row c.args.column c.args.member) (count / step) count
          (omega (arith, div-add-mod' count step, mod_below count step c.new-known.result.moves));
    }

pub loop-kept-preserved : goal.loop-kept-preserved
loop-kept-preserved c =
    let before = c.loop-kept.invariant in
    let count = c.count-count.result in
    let step = c.new-known.result.step in
    let kept = c.loop-kept.kept in
    let starts : ℕ → ℕ = λ row. start_of c.args.source.now.source c.args.owner row c.args.column c.args.member in
    let again : kept ≡ kept - 1 + 1 = omega arith in
    let same : c.keep.new.self.step ≡ step = c.keep.ensures.step ∙ before.step in
    let P : ℕ → Type 0 = λ s. IsKnown c.keep.new.self starts (kept * s) count in
    let Q : ℕ → Type 0 = λ s. IsKnown c.keep.new.self starts ((kept - 1) * s + 1) count in
    let known : IsKnown c.keep.new.self starts (kept * step) count = c.keep.ensures.known starts count c.start_up_to-start.ensures before.known in
    record {
      step = same;
      room = before.room;
      behind = omega (arith, ap (λ (n : ℕ). n * step) again, c.new-known.result.moves);
      within = omega (arith, before.behind, before.within);
      start = c.start_up_to-start.ensures;
      known = subst Q same (known_between c.keep.new.self starts kept count (omega arith) (subst P (sym same) known));
    }

pub returns : goal.returns
returns c =
    let none : c.loop-kept.kept ≡ 0 = omega arith in
    let first : c.loop-kept.kept * c.new-known.result.step + 1 ≡ 1 = omega (arith, ap (λ (n : ℕ). n * c.new-known.result.step) none) in
    rw (c.count-count.ensures.value, first) at c.loop-kept.invariant.known
