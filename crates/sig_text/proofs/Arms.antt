-- Types by their first byte.
use Rattle.sig_text.proofs.Prelude.{◌≡◌, ℕ, zero, suc, ◌-◌, ◌<◌, Some, None, List, [], ◌∷◌, refl, arith, Element, element_of, word, element_text, code_shown, core_shown}

pub core_none : (d c : ℕ) (b : List ℕ) → d ≡ 0 → core_shown d c b ≡ ([], b)
unfolding core_shown
core_none zero c b e = refl
core_none (suc d) c b e = absurd (omega arith)

pub core_element : (d c : ℕ) (b : List ℕ) (e : Element) → 0 < d → Some e ≡ element_of c → core_shown d c b ≡ (word (element_text e) ∷ [], b)
unfolding core_shown
core_element zero c b e h k = absurd (omega arith)
core_element (suc d) c b e h k = rw (← k) refl

pub core_code : (d c : ℕ) (b : List ℕ) → 0 < d → None ≡ element_of c → core_shown d c b ≡ code_shown (core_shown (d - 1)) c b
unfolding core_shown
core_code zero c b h k = absurd (omega arith)
core_code (suc d) c b h k = let less : suc d - 1 ≡ d = omega arith in rw (less, ← k) refl
