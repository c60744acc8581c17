-- The bytes that are left after a value say whether it has an encoding, and how long the encoding is.
use Rattle.std.proofs.Common.{◌≡◌, ℕ, ℤ, ◌+◌, ◌-◌, ◌^◌, ◌<◌, ◌≤◌, ◌↔◌, Bool, true, false, cond, ltb, leb, Result, Ok, Err, List, [], ◌∷◌, length, length-append, refl, ap, sym, subst, arith}
use Rattle.sig_encoder.proofs.Prelude.{flat_map, AllByRecursion, ltb-true, lt-ltb, leb-true, leb-false, and_parts, and_from, Part, byte, number, signed, index, short_part, HasEncoding, index_number, Body, body_parts, IsBodyWithin, IsEncodable, short, then, run, Item, part, broken, kept, unbroken, body_items, has_tag, has_short, take_room, measurer_step}
use Rattle.std.proofs.lemmas.Int.{ints}
use Rattle.packed.specs.Packed.{FitsBits, fits_bits}
use Rattle.sig_encoder.specs.declared.measurer.Measurer.{Measurer}
use Rattle.sig_encoder.proofs.Indexes.{index_coded, coded_tag, tag_small}

-- ---- one part

pub bits_fit : (z : ℤ) → fits_bits 29 z ≡ true → FitsBits 29 z
bits_fit z e = record { low = grind (arith, ints); high = grind (arith, ints) }

fit_bits : (z : ℤ) → FitsBits 29 z → fits_bits 29 z ≡ true
fit_bits z h = grind (arith, ints)

pub encodes : (p : Part) → has_short p ≡ true → HasEncoding p
encodes (byte c) e = ltb-true c 256 e
encodes (number n) e = ltb-true n (2 ^ 29) e
encodes (signed z) e = bits_fit z e
encodes (index token) e =
    let two = and_parts (has_tag token) (ltb (index_number token) (2 ^ 29)) e in
    let few = tag_small token two.0 in
    let less = ltb-true (index_number token) (2 ^ 29) two.1 in
    (index_coded token two.0, omega arith)

pub encoded : (p : Part) → HasEncoding p → has_short p ≡ true
encoded (byte c) h = lt-ltb c 256 h
encoded (number n) h = lt-ltb n (2 ^ 29) h
encoded (signed z) h = fit_bits z h
encoded (index token) h =
    let tag = coded_tag token (index_number token) h.0 in
    let few = tag_small token tag in
    let row = h.1 in
    and_from _ _ tag (lt-ltb (index_number token) (2 ^ 29) (omega arith))

-- ---- one part after another

abbrev Encoded : List Part → Type 0
Encoded parts = AllByRecursion HasEncoding parts

abbrev size : List Part → ℕ
size parts = length (flat_map short_part parts)

abbrev Measure : Result Measurer Measurer → List Item → ℕ → Type 0
Measure (Ok room) xs whole = (unbroken xs ≡ true) × (Encoded (kept xs) × (room.left + size (kept xs) ≡ whole))
Measure (Err room) xs whole = unbroken xs ≡ true → Encoded (kept xs) → whole < size (kept xs)

size-cons : (p : Part) (ps : List Part) → size (p ∷ ps) ≡ length (short_part p) + size ps
size-cons p ps = length-append (short_part p) (flat_map short_part ps)

more_by : (p : Part) (xs : List Item) (whole : ℕ) (o : Result Measurer Measurer) → HasEncoding p → length (short_part p) ≤ whole → Measure o xs (whole - length (short_part p)) → Measure o (part p ∷ xs) whole
more_by p xs whole (Ok room) h le m = let sum = size-cons p (kept xs) in let tail = m.1.1 in (m.0, ((h, m.1.0), omega arith))
more_by p xs whole (Err room) h le m = λ e all. let sum = size-cons p (kept xs) in let less = m e all.1 in omega arith

take_by : (p : Part) (xs : List Item) (room : Measurer) (b : Bool) → leb (length (short_part p)) room.left ≡ b → HasEncoding p → ((r : Measurer) → Measure (run measurer_step xs r) xs r.left)
    → Measure (then (run measurer_step xs) (cond b (Ok (record { left = room.left - length (short_part p) })) (Err room))) (part p ∷ xs) room.left
take_by p xs room true e h m = more_by p xs room.left _ h (leb-true (length (short_part p)) room.left e) (m (record { left = room.left - length (short_part p) }))
take_by p xs room false e h m = λ whole all. let sum = size-cons p (kept xs) in let less = leb-false (length (short_part p)) room.left e in omega arith

part_by : (p : Part) (xs : List Item) (room : Measurer) (b : Bool) → has_short p ≡ b → ((r : Measurer) → Measure (run measurer_step xs r) xs r.left)
    → Measure (then (run measurer_step xs) (cond b (take_room (length (short_part p)) room) (Err room))) (part p ∷ xs) room.left
unfolding take_room
part_by p xs room true e m = take_by p xs room (leb (length (short_part p)) room.left) refl (encodes p e) m
part_by p xs room false e m = λ whole all. let is = encoded p all.0 in absurd (cc)

measure : (xs : List Item) (room : Measurer) → Measure (run measurer_step xs room) xs room.left
unfolding run measurer_step
measure [] room = (refl, (tt, omega arith))
measure (broken ∷ xs) room = λ whole all. absurd (cc)
measure (part p ∷ xs) room = part_by p xs room (has_short p) refl (λ r. measure xs r)

-- ---- the whole length that a blob may have

abbrev pub whole_room : Measurer
whole_room = record { left = 2 ^ 29 - 1 }

-- the items of a signature are its parts, and they report a broken value if the grammar or the depth does not allow it
pub record AreParts : Type 0 where
  pub parts : (s : Body) (depth : ℕ) → kept (body_items s depth) ≡ body_parts s
  pub allowed : (s : Body) (depth : ℕ) → (unbroken (body_items s depth) ≡ true) ↔ IsBodyWithin depth s

module _ (law : AreParts) (s : Body) (room : Measurer) where
  same : size (kept (body_items s 128)) ≡ size (body_parts s)
  same = ap size (law.parts s 128)

  pub refused : Err room ≡ run measurer_step (body_items s 128) whole_room → IsEncodable s → ⊥
  refused e is =
      let m : Measure (Err room) (body_items s 128) (2 ^ 29 - 1) = subst (λ (o : Result Measurer Measurer). Measure o (body_items s 128) (2 ^ 29 - 1)) (sym e) (measure (body_items s 128) whole_room) in
      let more = m ((law.allowed s 128).1 is.body) (rw (law.parts s 128) is.parts) in
      let equal = same in
      let limit = is.limit in
      omega arith

  pub measured : Ok room ≡ run measurer_step (body_items s 128) whole_room → IsEncodable s × (room.left + length (short s) ≡ 2 ^ 29 - 1)
  measured e =
      let m : Measure (Ok room) (body_items s 128) (2 ^ 29 - 1) = subst (λ (o : Result Measurer Measurer). Measure o (body_items s 128) (2 ^ 29 - 1)) (sym e) (measure (body_items s 128) whole_room) in
      let equal = same in
      (record { body = (law.allowed s 128).0 m.0; parts = subst Encoded (law.parts s 128) m.1.0; limit = omega arith }, omega arith)
