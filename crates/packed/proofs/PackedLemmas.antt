-- Decoding a packed number inverts encoding it.
use Rattle.packed.proofs.Prelude.{◌≡◌, ℕ, ◌+◌, ◌-◌, ◌*◌, ◌/◌, ◌%◌, ◌^◌, ◌<◌, ◌≤◌, Bool, true, false, cond, ltb, Option, Some, List, [], ◌∷◌, ◌++◌, length, take, get_or, refl, sym, ap, ◌∙◌, subst, arith, inl, inr, IfSome, IsSomeAnd, ltb-true, ltb-false, lt-ltb, le-ltb, unsigned_at, two_at, four_at, IsPacked}

-- each element is a byte
abbrev pub AreBytes : List ℕ → Type 0
AreBytes bytes = (k : ℕ) → get_or bytes k 0 < 2 ^ 8

-- a decoded number is encoded by the bytes that were read
abbrev IsRead : List ℕ → ℕ × ℕ → Type 0
IsRead bytes read = (read.1 ≤ length bytes) × IsPacked read.0 (take read.1 bytes)

IfSome-cond : {A : Type 0} (P : A → Type 0) (b : Bool) (x y : Option A) → (b ≡ true → IfSome x P) → (b ≡ false → IfSome y P) → IfSome (cond b x y) P
IfSome-cond P true x y h k = h refl
IfSome-cond P false x y h k = k refl

two_found : (a : ℕ) (b : List ℕ) → 0x80 ≤ a → a < 0xC0 → AreBytes (a ∷ b) → IfSome (two_at a b) (IsRead (a ∷ b))
two_found a [] low high h = tt
two_found a (b ∷ tail) low high h =
    let lt : b < 256 = h 1 in
    let high_byte : 0x80 + ((a - 0x80) * 2 ^ 8 + b) / 2 ^ 8 ≡ a = omega arith in
    let low_byte : ((a - 0x80) * 2 ^ 8 + b) % 2 ^ 8 ≡ b = omega arith in
    (omega arith, inr (inl (omega arith, rw (high_byte, low_byte) refl)))

four_found : (a : ℕ) (b : List ℕ) → 0xC0 ≤ a → a < 0xE0 → AreBytes (a ∷ b) → IfSome (four_at a b) (IsRead (a ∷ b))
four_found a [] low high h = tt
four_found a (b ∷ []) low high h = tt
four_found a (b ∷ c ∷ []) low high h = tt
four_found a (b ∷ c ∷ d ∷ tail) low high h =
    let lt0 : b < 256 = h 1 in
    let lt1 : c < 256 = h 2 in
    let lt2 : d < 256 = h 3 in
    let byte0 : 0xC0 + ((a - 0xC0) * 2 ^ 24 + b * 2 ^ 16 + c * 2 ^ 8 + d) / 2 ^ 24 ≡ a = omega arith in
    let byte1 : ((a - 0xC0) * 2 ^ 24 + b * 2 ^ 16 + c * 2 ^ 8 + d) / 2 ^ 16 % 2 ^ 8 ≡ b = omega arith in
    let byte2 : ((a - 0xC0) * 2 ^ 24 + b * 2 ^ 16 + c * 2 ^ 8 + d) / 2 ^ 8 % 2 ^ 8 ≡ c = omega arith in
    let byte3 : ((a - 0xC0) * 2 ^ 24 + b * 2 ^ 16 + c * 2 ^ 8 + d) % 2 ^ 8 ≡ d = omega arith in
    (omega arith, inr (inr (omega arith, rw (byte0, byte1, byte2, byte3) refl)))

pub unsigned_found : (bytes : List ℕ) → AreBytes bytes → IfSome (unsigned_at bytes) (IsRead bytes)
unfolding unsigned_at
unsigned_found [] h = tt
unsigned_found (a ∷ b) h =
    IfSome-cond (IsRead (a ∷ b)) (ltb a 0x80) _ _
    (λ e. (omega arith, inl (ltb-true a 0x80 e, refl)))
    (λ e. IfSome-cond (IsRead (a ∷ b)) (ltb a 0xC0) _ _
    (λ f. two_found a b (ltb-false a 0x80 e) (ltb-true a 0xC0 f) h)
    (λ f. IfSome-cond (IsRead (a ∷ b)) (ltb a 0xE0) _ _ (λ g. four_found a b (ltb-false a 0xC0 f) (ltb-true a 0xE0 g) h) (λ g. tt)))

-- an encoding at the start of bytes decodes to its number
pub unsigned_again : (n : ℕ) (prefix tail : List ℕ) → IsPacked n prefix → unsigned_at (prefix ++ tail) ≡ Some (n, length prefix)
unfolding unsigned_at
unsigned_again n prefix tail (inl h) = rw (h.1, lt-ltb n 0x80 h.0) refl
unsigned_again n prefix tail (inr (inl h)) =
    let lt = h.0 in
    let a = 0x80 + n / 2 ^ 8 in
    let back : (a - 0x80) * 2 ^ 8 + n % 2 ^ 8 ≡ n = omega arith in
    rw (h.1, le-ltb a 0x80 (omega arith), lt-ltb a 0xC0 (omega arith)) (ap (λ (m : ℕ). Some (m, 2)) back)
unsigned_again n prefix tail (inr (inr h)) =
    let lt = h.0 in
    let a = 0xC0 + n / 2 ^ 24 in
    let back : (a - 0xC0) * 2 ^ 24 + n / 2 ^ 16 % 2 ^ 8 * 2 ^ 16 + n / 2 ^ 8 % 2 ^ 8 * 2 ^ 8 + n % 2 ^ 8 ≡ n = omega arith in
    rw (h.1, le-ltb a 0x80 (omega arith), le-ltb a 0xC0 (omega arith), lt-ltb a 0xE0 (omega arith)) (ap (λ (m : ℕ). Some (m, 4)) back)

-- so a prefix of the bytes encodes no other number
pub unsigned_only : (bytes prefix tail : List ℕ) (n : ℕ) (r : Option (ℕ × ℕ)) → r ≡ unsigned_at bytes → bytes ≡ prefix ++ tail → IsPacked n prefix
    → IsSomeAnd r (λ read. (read.0 ≡ n) × (read.1 ≡ length prefix))
unsigned_only bytes prefix tail n r is split packed =
    let read : r ≡ Some (n, length prefix) = is ∙ ap unsigned_at split ∙ unsigned_again n prefix tail packed in
    let P : Option (ℕ × ℕ) → Type 0 = λ o. IsSomeAnd o (λ x. (x.0 ≡ n) × (x.1 ≡ length prefix)) in
    subst P (sym read) (refl, refl)
