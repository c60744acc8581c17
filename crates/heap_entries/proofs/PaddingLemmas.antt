-- Bytes that are equal once they are padded with zeros.
use Rattle.std.proofs.Common.{◌≡◌, ◌≤◌, ◌∙◌, ℕ, ◌+◌, ◌-◌, ◌%◌, ◌/◌, List, ◌++◌, length, take, drop, min, replicate, ap, ap₂, sym, append_assoc, arith, length-append, length-drop}
use Rattle.std.proofs.Math.Seq.{take-append_seam, drop-append_seam}
use Rattle.std.proofs.lemmas.List.{take-append-le, take-replicate, drop-append-le, take-append-drop, length-replicate, replicate-append-replicate}
use Rattle.heap_entries.specs.Padding.{zero_padded}

module _ (longer shorter : List ℕ) (long : length shorter ≤ length longer) where
  -- bytes with zeros after them, no more than they are padded with, are padded to the same bytes
  pub padded_alike : length longer / 4 + min 1 (length longer % 4) ≡ length shorter / 4 + min 1 (length shorter % 4)
      → take (length shorter) longer ≡ shorter → drop (length shorter) longer ≡ replicate (length (drop (length shorter) longer)) 0
      → zero_padded longer ≡ zero_padded shorter
  padded_alike same begins zeros =
      let count = length (drop (length shorter) longer) in
      let pad = (4 - length longer % 4) % 4 in
      let counted = length-drop (length shorter) longer in
      ap (λ (l : List ℕ). l ++ replicate pad 0) (sym (take-append-drop (length shorter) longer) ∙ ap₂ (λ (s t : List ℕ). s ++ t) begins zeros)
      ∙ append_assoc shorter (replicate count 0) (replicate pad 0)
      ∙ ap (λ (l : List ℕ). shorter ++ l) (replicate-append-replicate count pad 0 ∙ ap (λ (n : ℕ). replicate n 0) (omega (arith, counted, same, long)))

  -- bytes that are padded to the same bytes differ in zeros after the shorter ones alone
  pub parts_alike : zero_padded longer ≡ zero_padded shorter
      → (length longer / 4 + min 1 (length longer % 4) ≡ length shorter / 4 + min 1 (length shorter % 4))
      × (take (length shorter) longer ≡ shorter)
      × (drop (length shorter) longer ≡ replicate (length (drop (length shorter) longer)) 0)
  parts_alike same =
      let tail = drop (length shorter) longer in
      let zeros : List ℕ = replicate ((4 - length longer % 4) % 4) 0 in
      let pad = (4 - length shorter % 4) % 4 in
      let lengths : length longer + (4 - length longer % 4) % 4 ≡ length shorter + pad =
      omega (arith, ap length same, length-append longer zeros, length-append shorter (replicate pad 0), length-replicate {A = ℕ} ((4 - length longer % 4) % 4) 0, length-replicate {A = ℕ} pad 0) in
      let ends : tail ++ zeros ≡ replicate pad 0 = sym (drop-append-le (length shorter) longer zeros long) ∙ ap (drop (length shorter)) same ∙ drop-append_seam shorter (replicate pad 0) in (
        omega (arith, lengths),
        sym (take-append-le (length shorter) longer zeros long) ∙ ap (take (length shorter)) same ∙ take-append_seam shorter (replicate pad 0),
        sym (take-append_seam tail zeros) ∙ ap (take (length tail)) ends ∙ take-replicate (length tail) pad 0 (omega (arith, lengths, length-drop (length shorter) longer)),
      )
