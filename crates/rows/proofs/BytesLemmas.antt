-- The bytes of numbers, and parts of lists.
use Rattle.rows.proofs.Prelude.{◌≡◌, ℕ, zero, suc, ◌*◌, ◌/◌, ◌^◌, ◌<◌, List, ◌++◌, take, drop, length, refl, sym, ◌∙◌, ap, append_assoc, arith, drop_at, take_at, pow-succ', little_endian, part, number_bytes}

-- elements of a list that follow those before them
pub record Follows (whole before here : List ℕ) : Type 0 where
  pub after : List ℕ
  pub split : whole ≡ before ++ (here ++ after)

-- what follows other elements within a part also follows them within the whole
pub follows_within : (whole before here fewer inner : List ℕ) → Follows whole before here → Follows here fewer inner → Follows whole (before ++ fewer) inner
follows_within whole before here fewer inner outside inside =
    record {
      after = inside.after ++ outside.after;
      split = outside.split
          ∙ ap (λ h. before ++ (h ++ outside.after)) inside.split
          ∙ ap (λ h. before ++ h) (append_assoc fewer (inner ++ inside.after) outside.after ∙ ap (λ h. fewer ++ h) (append_assoc inner inside.after outside.after))
          ∙ sym (append_assoc before fewer (inner ++ (inside.after ++ outside.after)));
    }

-- it is at the offset that is the length of what precedes it
pub part_follows : (whole before here : List ℕ) (offset width : ℕ) → Follows whole before here → length before ≡ offset → length here ≡ width → part whole offset width ≡ here
part_follows whole before here offset width follows long wide =
    ap (λ w. take width (drop offset w)) follows.split
    ∙ ap (take width) (drop_at before (here ++ follows.after) offset long)
    ∙ take_at here follows.after width wide

pub length-number_bytes : (width number : ℕ) → length (number_bytes width number) ≡ width
length-number_bytes zero number = refl
length-number_bytes (suc width) number = ap suc (length-number_bytes width (number / 256))

-- a number that fits its width is read back
pub number_again : (width number : ℕ) → number < 256 ^ width → little_endian (number_bytes width number) ≡ number
number_again zero number fits = omega arith
number_again (suc width) number fits =
    let power : 256 ^ suc width ≡ 256 * 256 ^ width = pow-succ' 256 width in
    let high : number / 256 < 256 ^ width = omega arith in
    let again = number_again width (number / 256) high in
    omega arith
