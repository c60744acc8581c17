use Rattle.embedding.proofs.Prelude.{◌≡◌, ℕ, ◌+◌, ◌≤◌, List, [], ◌∷◌, length, take, drop, ap, arith, length-drop, drop-drop, little_endian, sum_of_words}
use Rattle.embedding.proofs.change.sum_of_words.Goals as goal

two_first : (bytes : List ℕ) → 2 ≤ length bytes → sum_of_words bytes ≡ little_endian (take 2 bytes) + sum_of_words (drop 2 bytes)
two_first [] enough = absurd (omega arith)
two_first (one ∷ []) enough = absurd (omega arith)
two_first (low ∷ (high ∷ bytes)) enough = omega arith

pub loop-offset-preserved : goal.loop-offset-preserved
loop-offset-preserved c =
    let bytes = c.args.bytes.now in
    let offset = c.loop-offset.offset in
    let step = two_first (drop offset bytes) (omega (arith, length-drop offset bytes)) in
    (omega arith, omega arith, omega (arith, step, ap sum_of_words (drop-drop 2 offset bytes), c.u16_at.ensures.value))
