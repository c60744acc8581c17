-- If the encoding fits, the writer appends the canonical encoding.
use Rattle.sig_encoder.proofs.Prelude.{◌≡◌, ◌∙◌, ℕ, ◌+◌, ◌-◌, ◌≤◌, Option, Some, None, Ok, List, [], ◌∷◌, ◌++◌, length, length-append, append_assoc, append-nil, refl, ap, arith, flat_map, AllByRecursion, le-leb, Part, short_part, HasEncoding, Body, IsEncodable, short, after, run, Item, part, broken, kept, body_items, Written, put_short, writer_step}
use Rattle.sig_encoder.proofs.Measured.{encoded, AreParts}

abbrev size : List Part → ℕ
size parts = length (flat_map short_part parts)

zero_padded : (xs : List Item) (w : Written) → AllByRecursion HasEncoding (kept xs) → size (kept xs) ≤ w.1
    → run writer_step xs w ≡ Ok (w.0 ++ flat_map short_part (kept xs), w.1 - size (kept xs))
unfolding run writer_step put_short
zero_padded [] w all le = let whole : w.1 - 0 ≡ w.1 = omega arith in rw (append-nil w.0, whole) refl
zero_padded (broken ∷ xs) w all le = zero_padded xs w all le
zero_padded (part p ∷ xs) w all le =
    let sum : size (p ∷ kept xs) ≡ length (short_part p) + size (kept xs) = length-append (short_part p) (flat_map short_part (kept xs)) in
    let fits : length (short_part p) ≤ w.1 = omega arith in
    let after_it : (w.1 - length (short_part p)) - size (kept xs) ≡ w.1 - size (p ∷ kept xs) = omega arith in
    rw (encoded p all.0, le-leb (length (short_part p)) w.1 fits)
    (zero_padded xs (w.0 ++ short_part p, w.1 - length (short_part p)) all.1 (omega arith)
    ∙ rw (append_assoc w.0 (short_part p) (flat_map short_part (kept xs)), after_it) refl)

ok_value : {U : Type 0} (r : Option U) (new w : Written) → after r new ≡ Ok w → new ≡ w
ok_value None new w e = absurd (cc)
ok_value (Some u) new w e = cc

pub body_padded : {U : Type 0} → AreParts → (r : Option U) (b : Body) (old new : Written) → IsEncodable b → length (short b) ≤ old.1 → after r new ≡ run writer_step (body_items b 128) old
    → new.0 ≡ old.0 ++ short b
body_padded law r b old new is le e =
    let same = law.parts b 128 in
    let long = ap size same in
    let done = ok_value r new _ (e ∙ zero_padded (body_items b 128) old (rw same is.parts) (omega arith)) in
    ap (λ (w : Written). w.0) done ∙ ap (λ (ps : List Part). old.0 ++ flat_map short_part ps) same
