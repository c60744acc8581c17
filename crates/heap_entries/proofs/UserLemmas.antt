-- The units and the last byte of a user string.
use Rattle.heap_entries.proofs.Prelude.{◌≡◌, ℕ, suc, ◌+◌, ◌-◌, ◌*◌, ◌/◌, ◌%◌, ◌<◌, ◌≤◌, List, [], ◌∷◌, ◌++◌, length, drop, flat_map, get_or, slice_get, Option, Some, inl, inr, refl, sym, ap, subst, ◌∙◌, ⊎_elim, arith, cases_lt, get_or_append_left, get_or-append-add, get_or_past, IsCounted, IsBlob, UserText, EncodesUserText, units_in, last_of, user_text}
use Rattle.heap_entries.specs.Units.{unit_bytes}

-- every element is a byte
abbrev pub AreBytes : List ℕ → Type 0
AreBytes bytes = (i : ℕ) → get_or bytes i 0 < 256

-- units and a last byte are read back from their bytes
pub units_back : (units : List ℕ) (last : ℕ) → units_in (flat_map unit_bytes units ++ last ∷ []) ≡ units
units_back [] last = refl
units_back (unit ∷ units) last =
    let here : unit % 256 + 256 * (unit / 256) ≡ unit = omega arith in
    rw (here, units_back units last) refl

pub last_back : (units : List ℕ) (last : ℕ) → last_of (flat_map unit_bytes units ++ last ∷ []) ≡ Some last
last_back [] last = refl
last_back (unit ∷ []) last = refl
last_back (unit ∷ next ∷ units) last = last_back (next ∷ units) last

pub length-user : (units : List ℕ) (last : ℕ) → length (flat_map unit_bytes units ++ last ∷ []) ≡ 2 * length units + 1
length-user [] last = refl
length-user (unit ∷ units) last = omega (arith, length-user units last)

-- an odd number of bytes is two bytes for each unit and one more
pub odd_parts : (blob : List ℕ) → AreBytes blob → length blob % 2 ≡ 1 → (last : ℕ) × (blob ≡ flat_map unit_bytes (units_in blob) ++ last ∷ []) × (last_of blob ≡ Some last)
odd_parts [] h odd = absurd (omega arith)
odd_parts (last ∷ []) h odd = (last, refl, refl)
odd_parts (low ∷ high ∷ []) h odd = absurd (omega arith)
odd_parts (low ∷ high ∷ byte ∷ bytes) h odd =
    let tail = odd_parts (byte ∷ bytes) (λ i. h (suc (suc i))) (omega arith) in
    let small = h 0 in
    let first : (low + 256 * high) % 256 ≡ low = omega arith in
    let second : (low + 256 * high) / 256 ≡ high = omega arith in
    (tail.0, rw (first, second) (ap (λ (l : List ℕ). low ∷ high ∷ l) tail.1), tail.2)

pub encodes_from : (blob : List ℕ) → AreBytes blob → (0 < length blob → length blob % 2 ≡ 1) → EncodesUserText blob (user_text blob)
encodes_from [] h odd = inl (refl, refl)
encodes_from (byte ∷ bytes) h odd =
    let parts = odd_parts (byte ∷ bytes) h (odd (omega arith)) in
    inr (units_in (byte ∷ bytes), parts.0, parts.1, ap (λ (flag : Option ℕ). record { units = units_in (byte ∷ bytes); flag = flag }) parts.2)

pub encodes_only : (blob : List ℕ) (string : UserText) → EncodesUserText blob string → user_text blob ≡ string
encodes_only blob string (inl none) = ap user_text none.0 ∙ sym none.1
encodes_only blob string (inr some) =
    let (units, last, bytes, is) = some in
    ap user_text bytes ∙ ap (λ (u : List ℕ). record { units = u; flag = last_of (flat_map unit_bytes units ++ last ∷ []) }) (units_back units last)
    ∙ ap (λ (f : Option ℕ). record { units = units; flag = f }) (last_back units last) ∙ sym is

pub encodes_odd : (blob : List ℕ) (string : UserText) → EncodesUserText blob string → 0 < length blob → length blob % 2 ≡ 1
encodes_odd blob string (inl none) some = absurd (omega (arith, ap length none.0))
encodes_odd blob string (inr is) some = omega (arith, ap length is.2, length-user is.0 is.1)

-- the bytes of a blob are bytes of its heap
counted_bytes : (heap : List ℕ) (index : ℕ) (blob : List ℕ) → IsCounted heap index blob → AreBytes heap → AreBytes blob
counted_bytes heap index blob e h i = ⊎_elim
    (λ (lt : i < length blob).
    let offset = length e.before + (length e.count + i) in
    let is : get_or heap offset 0 ≡ get_or blob i 0 =
    ap (λ (l : List ℕ). get_or l offset 0) e.whole
    ∙ get_or-append-add e.before (e.count ++ (blob ++ e.after)) (length e.count + i) 0
    ∙ get_or-append-add e.count (blob ++ e.after) i 0
    ∙ get_or_append_left blob e.after 0 i lt in
    subst (λ n. n < 256) is (h offset))
    (λ (ge : length blob ≤ i). subst (λ n. n < 256) (sym (get_or_past blob i 0 ge)) (omega arith))
    (cases_lt i (length blob))

pub blob_bytes : (heap : List ℕ) (index : ℕ) (blob : List ℕ) → IsBlob heap index blob → AreBytes heap → AreBytes blob
blob_bytes heap index blob (inl none) h = λ i. rw (none.1) (omega arith)
blob_bytes heap index blob (inr is) h = counted_bytes heap index blob is.1 h

-- the last byte, by its index
pub last_at : (bytes : List ℕ) → slice_get bytes (length bytes - 1) ≡ last_of bytes
last_at [] = refl
last_at (byte ∷ []) = refl
last_at (byte ∷ next ∷ bytes) =
    let further : length (byte ∷ next ∷ bytes) - 1 ≡ suc (length (next ∷ bytes) - 1) = omega arith in
    ap (slice_get (byte ∷ next ∷ bytes)) further ∙ last_at (next ∷ bytes)

-- two bytes fewer are one unit fewer
pub fewer_units : (bytes : List ℕ) → 2 ≤ length bytes → length (units_in bytes) ≡ length (units_in (drop 2 bytes)) + 1
fewer_units [] h = absurd (omega arith)
fewer_units (low ∷ []) h = absurd (omega arith)
fewer_units (low ∷ high ∷ bytes) h = omega arith
