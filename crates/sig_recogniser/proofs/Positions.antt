-- What remains at a position, and what is kept there of a type index.
use Rattle.sig_recogniser.proofs.Prelude.{◌≡◌, ◌≢◌, ℕ, zero, suc, ◌+◌, ◌-◌, ◌*◌, ◌<◌, ◌≤◌, ◌^◌, Bool, true, false, cond, ltb, Option, Some, None, List, [], ◌∷◌, length, drop, refl, sym, ap, subst, arith, length-drop, unwrap_or, Token, has_row, token_of, number_at, noted, offset_of, bad_of, token_kept, remains, bad_token, left, number_left}
use Rattle.std.proofs.lemmas.Bool.Decides.{nat_tests}
use Rattle.std.proofs.lemmas.List.{drop-drop}
use Rattle.packed.specs.Prefix.{unsigned_at}
use Rattle.table_schema.specs.declared.table.TableId.TheVariants.{TypeDef}
use Rattle.sig_recogniser.specs.declared.position.Position.{Position}
use Rattle.sig_recogniser.proofs.Noted.{note_one}

kept_some : (bad : ℕ) → bad ≢ 0 → token_kept bad ≡ Some (unwrap_or (token_of (bad - 1)) (record { table = TypeDef; row = 0 }))
kept_some zero h = absurd (h refl)
kept_some (suc n) h = let e : suc n - 1 ≡ n = omega arith in rw e refl

pub bad_none : (here : Position) → bad_of here ≡ 0 → bad_token here ≡ None
unfolding bad_token
bad_none here h = rw h refl

pub bad_some : (here : Position) → bad_of here ≢ 0 → bad_token here ≡ Some (unwrap_or (token_of (bad_of here - 1)) (record { table = TypeDef; row = 0 }))
unfolding bad_token
bad_some here h = kept_some (bad_of here) h

bad_next : (here : Position) (number : ℕ) (token : Token) → bad_of here ≡ number + 1 → token_of number ≡ Some token → bad_token here ≡ Some token
unfolding bad_token
bad_next here number token h e =
    let next : bad_of here ≡ suc number = omega (arith, h) in
    rw (next, e) refl

-- ---- one more type index

pub noted_good : (counts : List ℕ) (bad : Option Token) (token : Token) (p : Bool) → p ≡ has_row counts token → p ≡ true → bad ≡ noted counts bad (token ∷ [])
noted_good counts None token p e is = subst (λ (q : Bool). cond q None (Some token) ≡ noted counts None (token ∷ [])) is (note_one counts None token p e)
noted_good counts (Some t) token p e is = refl

pub noted_before : (counts : List ℕ) (here : Position) (token : Token) → bad_of here ≢ 0 → bad_token here ≡ noted counts (bad_token here) (token ∷ [])
noted_before counts here token h = let e = bad_some here h in rw e refl

pub noted_bad : (counts : List ℕ) (here next : Position) (number : ℕ) (token : Token) (p : Bool) → bad_of here ≡ 0 → bad_of next ≡ number + 1 → token_of number ≡ Some token → p ≡ has_row counts token → p ≡ false → bad_token next ≡ noted counts (bad_token here) (token ∷ [])
noted_bad counts here next number token p h n of e is =
    rw (bad_next next number token n of, bad_none here h) (subst (λ (q : Bool). cond q None (Some token) ≡ noted counts None (token ∷ [])) is (note_one counts None token p e))

-- ---- bytes at a position

pub remains_more : (bytes : List ℕ) (here next : Position) (count : ℕ) → offset_of next ≡ offset_of here + count → drop count (remains bytes here) ≡ remains bytes next
unfolding remains
remains_more bytes here next count h = rw h (drop-drop count (offset_of here) bytes)

pub count_fits : (bytes tail : List ℕ) (here : Position) (count : ℕ) → tail ≡ remains bytes here → count ≤ length tail → length bytes < 2 ^ 29 → offset_of here < 2 ^ 32 → offset_of here + count < 2 ^ 32
unfolding remains
count_fits bytes tail here count h le limit fits =
    let e : length tail ≡ length bytes - offset_of here = rw h (length-drop (offset_of here) bytes) in
    omega arith

-- ---- a number at a position

pub number_found : (bytes tail : List ℕ) (here next : Position) (number count : ℕ) → tail ≡ remains bytes here → offset_of next ≡ offset_of here + count → bad_token next ≡ bad_token here → Some (number, count) ≡ unsigned_at tail → Some (number, left bytes next) ≡ number_left (left bytes here)
unfolding number_left number_at
number_found bytes tail here next number count h moves same e =
    let f : unsigned_at (remains bytes here) ≡ Some (number, count) = subst (λ (t : List ℕ). unsigned_at t ≡ Some (number, count)) h (sym e) in
    rw (f, same) (ap (λ (t : List ℕ). Some (number, (t, bad_token here))) (sym (remains_more bytes here next count moves)))

pub number_none : (bytes tail : List ℕ) (here : Position) → tail ≡ remains bytes here → None ≡ unsigned_at tail → None ≡ number_left (left bytes here)
unfolding number_left number_at
number_none bytes tail here h e =
    let f : unsigned_at (remains bytes here) ≡ None = subst (λ (t : List ℕ). unsigned_at t ≡ None) h (sym e) in
    rw f refl

pub number_short : (bytes : List ℕ) (here next : Position) (c : ℕ) → remains bytes here ≡ c ∷ remains bytes next → bad_token next ≡ bad_token here → c < 0x80 → number_left (left bytes here) ≡ Some (c, left bytes next)
unfolding number_left number_at unsigned_at
number_short bytes here next c h same lt =
    let low : ltb c 0x80 ≡ true = grind (arith, nat_tests) in
    rw (h, low, same) refl

pub number_two : (bytes : List ℕ) (here behind next : Position) (a b : ℕ) → remains bytes here ≡ a ∷ remains bytes behind → remains bytes behind ≡ b ∷ remains bytes next → bad_token behind ≡ bad_token here → bad_token next ≡ bad_token behind → 0x80 ≤ a → a < 0xC0 → number_left (left bytes here) ≡ Some ((a - 0x80) * 0x100 + b, left bytes next)
unfolding number_left number_at unsigned_at
number_two bytes here behind next a b h k same too low high =
    let long : ltb a 0x80 ≡ false = grind (arith, nat_tests) in
    let two : ltb a 0xC0 ≡ true = grind (arith, nat_tests) in
    rw (h, k, long, two, too, same) refl

pub number_four : (bytes : List ℕ) (here p q r next : Position) (a b c d : ℕ) → remains bytes here ≡ a ∷ remains bytes p → remains bytes p ≡ b ∷ remains bytes q → remains bytes q ≡ c ∷ remains bytes r → remains bytes r ≡ d ∷ remains bytes next → bad_token p ≡ bad_token here → bad_token q ≡ bad_token p → bad_token r ≡ bad_token q → bad_token next ≡ bad_token r → 0xC0 ≤ a → a < 0xE0 → number_left (left bytes here) ≡ Some ((a - 0xC0) * 2 ^ 24 + b * 2 ^ 16 + c * 2 ^ 8 + d, left bytes next)
unfolding number_left number_at unsigned_at
number_four bytes here p q r next a b c d ha hb hc hd sp sq sr sn low high =
    let long : ltb a 0x80 ≡ false = grind (arith, nat_tests) in
    let longer : ltb a 0xC0 ≡ false = grind (arith, nat_tests) in
    let four : ltb a 0xE0 ≡ true = grind (arith, nat_tests) in
    rw (ha, hb, hc, hd, long, longer, four, sn, sr, sq, sp) refl

-- ---- another position with the same numbers

pub same_bytes : (bytes : List ℕ) (here next : Position) → offset_of next ≡ offset_of here → remains bytes next ≡ remains bytes here
unfolding remains
same_bytes bytes here next h = ap (λ (n : ℕ). drop n bytes) h

pub same_bad : (here next : Position) → bad_of next ≡ bad_of here → bad_token next ≡ bad_token here
unfolding bad_token
same_bad here next h = ap (λ (n : ℕ). token_kept n) h
