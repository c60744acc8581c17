-- The bytes of a number.
use Rattle.schema.proofs.Prelude.{◌≡◌, ℕ, zero, suc, ◌+◌, ◌*◌, ◌/◌, ◌%◌, ◌^◌, ◌<◌, ◌≤◌, List, [], ◌∷◌, ◌++◌, length, take, drop, get_or, refl, sym, ap, subst, ◌∙◌, lit<, arith, length-drop, pow-suc, div-mul-add, mod-mul-add, div_below, div-add-mod', take_at, length-take-le, get_or-drop, little_endian, part, number_bytes}

-- each element is a byte
abbrev pub IsBytes : List ℕ → Type 0
IsBytes bytes = (i : ℕ) → get_or bytes i 0 < 256

pub length-number_bytes : (width number : ℕ) → length (number_bytes width number) ≡ width
length-number_bytes zero number = refl
length-number_bytes (suc width) number = ap suc (length-number_bytes width (number / 256))

-- the bytes of a number encode it
pub number_bytes-encode : (width number : ℕ) → number < 256 ^ width → little_endian (number_bytes width number) ≡ number
number_bytes-encode zero number h = omega arith
number_bytes-encode (suc width) number h =
    let less : number < 256 ^ width * 256 = rw pow-suc at h in
    let tail = number_bytes-encode width (number / 256) (div_below number 256 (256 ^ width) (lit< tt) less) in
    let split = div-add-mod' number 256 in
    omega (arith, tail, split)

-- bytes are those of the number that they encode
pub bytes_of_number : (bytes : List ℕ) → IsBytes bytes → number_bytes (length bytes) (little_endian bytes) ≡ bytes
bytes_of_number [] are = refl
bytes_of_number (byte ∷ bytes) are =
    let tail = little_endian bytes in
    let number : little_endian (byte ∷ bytes) ≡ tail * 256 + byte = omega arith in
    let low : little_endian (byte ∷ bytes) % 256 ≡ byte = ap (λ n. n % 256) number ∙ mod-mul-add tail 256 byte (are 0) in
    let high : little_endian (byte ∷ bytes) / 256 ≡ tail = ap (λ n. n / 256) number ∙ div-mul-add tail 256 byte (are 0) in
    ap (λ b. b ∷ number_bytes (length bytes) (little_endian (byte ∷ bytes) / 256)) low
    ∙ ap (λ bs. byte ∷ bs) (ap (number_bytes (length bytes)) high ∙ bytes_of_number bytes (λ i. are (suc i)))

-- bytes encode a number that fits in them
pub bytes_fit : (bytes : List ℕ) → IsBytes bytes → little_endian bytes < 256 ^ length bytes
bytes_fit [] are = lit< tt
bytes_fit (byte ∷ bytes) are =
    let tail = bytes_fit bytes (λ i. are (suc i)) in
    let here = are 0 in
    let more : 256 ^ suc (length bytes) ≡ 256 ^ length bytes * 256 = pow-suc 256 (length bytes) in
    omega (arith, tail, here, more)

-- parts of bytes are bytes
bytes_take : (count : ℕ) (bytes : List ℕ) → IsBytes bytes → IsBytes (take count bytes)
bytes_take zero bytes are i = lit< tt
bytes_take (suc count) [] are i = lit< tt
bytes_take (suc count) (byte ∷ bytes) are zero = are 0
bytes_take (suc count) (byte ∷ bytes) are (suc i) = bytes_take count bytes (λ j. are (suc j)) i

pub bytes_drop : (offset : ℕ) (bytes : List ℕ) → IsBytes bytes → IsBytes (drop offset bytes)
bytes_drop offset bytes are i = rw get_or-drop (are (offset + i))

-- the number at an offset is encoded by the bytes there
pub part_of_number : (bytes : List ℕ) (offset count : ℕ) → IsBytes bytes → offset + count ≤ length bytes → number_bytes count (little_endian (part bytes offset count)) ≡ part bytes offset count
part_of_number bytes offset count are within =
    let long : length (part bytes offset count) ≡ count = length-take-le count (drop offset bytes) (omega (arith, length-drop offset bytes)) in
    ap (λ n. number_bytes n (little_endian (part bytes offset count))) (sym long) ∙ bytes_of_number (part bytes offset count) (bytes_take count (drop offset bytes) (bytes_drop offset bytes are))

pub part_fits : (bytes : List ℕ) (offset count : ℕ) → IsBytes bytes → offset + count ≤ length bytes → little_endian (part bytes offset count) < 256 ^ count
part_fits bytes offset count are within =
    let long : length (part bytes offset count) ≡ count = length-take-le count (drop offset bytes) (omega (arith, length-drop offset bytes)) in
    let fits = bytes_fit (part bytes offset count) (bytes_take count (drop offset bytes) (bytes_drop offset bytes are)) in
    let P : ℕ → Type 0 = λ n. little_endian (part bytes offset count) < 256 ^ n in
    subst P long fits

-- a number whose bytes are at an offset is the one that is read there
pub number_read : (bytes tail : List ℕ) (offset width number : ℕ) → number < 256 ^ width → drop offset bytes ≡ number_bytes width number ++ tail → little_endian (part bytes offset width) ≡ number
number_read bytes tail offset width number fits stands =
    ap (λ (xs : List ℕ). little_endian (take width xs)) stands
    ∙ ap little_endian (take_at (number_bytes width number) tail width (length-number_bytes width number))
    ∙ number_bytes-encode width number fits
