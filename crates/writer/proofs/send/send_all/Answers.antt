use Rattle.std.proofs.Common.{◌≡◌, ℕ, ◌+◌, List, take, drop, ap, ◌∙◌, arith, subst, cond, eqb, false, Option, length, length-drop}
use Rattle.std.proofs.Math.Seq.{take-add}
use Rattle.std.proofs.lemmas.Bool.Decides.{nat_tests}
use Rattle.std.proofs.KnownBytes.{Appends-trans}
use Rattle.std.specs.Io.KnownBytes.{Appends}
use Rattle.writer.proofs.send.send_all.Goals as goal

-- the bytes offered from an index on are sent after those before it
more_given : (old middle new : Option (List ℕ)) (bytes tail : List ℕ) (given taken : ℕ) → tail ≡ drop given bytes
    → Appends old middle (take given bytes) → Appends middle new (take taken tail) → Appends old new (take (given + taken) bytes)
more_given old middle new bytes tail given taken is first second =
    rw (take-add given taken bytes) (Appends-trans old middle new (take given bytes) (take taken (drop given bytes)) first
    (subst (λ list. Appends middle new (take taken list)) is second))

-- a call that accepted some bytes did not fail
not_failed : (taken before failed after : ℕ) → (taken ≡ 0 → ⊥) → failed ≡ before → after ≡ failed + cond (eqb taken 0) 1 0 → after ≡ before
not_failed taken before failed after some same counted =
    let no : eqb taken 0 ≡ false = grind (arith, nat_tests) in
    counted ∙ ap (λ test. failed + cond test 1 0) no ∙ omega arith

pub loop-given-preserved : goal.loop-given-preserved
loop-given-preserved g c =
    let bytes = c.args.bytes.now in
    let given = c.loop-given.given in
    let taken = c.offer_some-taken.result in
    let before = c.loop-given.invariant in
    let more = c.offer_some-taken.ensures in
    let tail = c.split_at.ensures.back in
    record {
      within = omega (arith, more.bound, ap length tail, length-drop given bytes, c.loop-given-test.true);
      prefix = more_given _ _ _ bytes c.split_at.result.1.now given taken tail before.prefix more.bytes;
      unfailed = not_failed taken _ _ _ c.if-taken-eq0.false before.unfailed more.failures;
    }
