-- The number that digits denote, for an argument without a leading plus sign.
use Rattle.cli_names.proofs.Prelude.{◌≡◌, ◌≢◌, ◌∙◌, ◌==◌, ℕ, ◌^◌, ◌<◌, ◌≤◌, ◌++◌, Bool, true, false, cond, List, [], ◌∷◌, codes, drop, length, take, Result, Ok, Err, Option, None, Some, ap, arith, eqb-true, inl, inr, refl, subst, sym, ⊎_elim, slice_index, MatchOption, Decides, digit_value, bytes_eq, take-append-drop, bytes_eq-Decides, SomeIff}
use Rattle.std.specs.Result.{result_ok}
use Rattle.std.specs.Str.Parse.{IsNumeral, ParsesUnsigned, digits_value}
use Rattle.std.proofs.Math.Nat.{pow-le-pow_right}
use Rattle.std.proofs.lemmas.Int.Digits.{digits_value-lt}
use Rattle.cli_names.specs.Numbers.{IsOffset, digits_of}

plus_free : (led : Bool) (word : List ℕ) → led ≡ false → drop (cond led 1 0) word ≡ word
plus_free true word none = cc
plus_free false word none = refl

-- an argument without a leading plus is read as a number of that width if and only if it is digits of one
pub number_read : {E : Type 0} (bits radix : ℕ) (word : List ℕ) (read : Result ℕ E) (answer : Option ℕ) → (slice_index word 0 == 43) ≡ false
    → ParsesUnsigned bits radix word read → answer ≡ result_ok read → SomeIff answer (IsNumeral radix word × (digits_value radix word < 2 ^ bits)) (digits_value radix word)
number_read bits radix word (Ok number) answer none parses is =
    rw is (subst (λ (ds : List ℕ). (IsNumeral radix ds × (digits_value radix ds < 2 ^ bits)) × (number ≡ digits_value radix ds)) (plus_free (slice_index word 0 == 43) word none) parses)
number_read bits radix word (Err error) answer none parses is =
    rw is (subst (λ (ds : List ℕ). ¬ (IsNumeral radix ds × (digits_value radix ds < 2 ^ bits))) (plus_free (slice_index word 0 == 43) word none) parses)

-- an argument of few bytes without a leading plus is read as a number if and only if it is digits
pub short_read : {E : Type 0} (bits radix most : ℕ) (Short : Type 0) (word : List ℕ) (read : Result ℕ E) (answer : Option ℕ) → Short → length word ≤ most → 1 ≤ radix
    → radix ^ most ≤ 2 ^ bits → (slice_index word 0 == 43) ≡ false → ParsesUnsigned bits radix word read → answer ≡ result_ok read
    → SomeIff answer (IsNumeral radix word × Short) (digits_value radix word)
short_read {E = E} bits radix most Short word (Ok number) answer short few some fits none parses is =
    let read = number_read {E = E} bits radix word (Ok number) (Some number) none parses refl in
    rw is ((read.0.0, short), read.1)
short_read {E = E} bits radix most Short word (Err error) answer short few some fits none parses is =
    let refused = number_read {E = E} bits radix word (Err error) None none parses refl in
    rw is (λ digits. refused (digits.0, omega (arith, fits, digits_value-lt radix word digits.0.1, pow-le-pow_right {n = radix} some few)))

-- digits do not begin with a plus
plus_no_numeral : (radix : ℕ) (word : List ℕ) → radix ≤ 36 → (slice_index word 0 == 43) ≡ true → ¬ IsNumeral radix word
plus_no_numeral radix [] low is = λ numeral. cc
plus_no_numeral radix (c ∷ cs) low is = λ numeral.
    let plus : c ≡ 43 = eqb-true c 43 is in
    let below : digit_value 43 < radix = subst (λ (b : ℕ). digit_value b < radix) plus numeral.1.0 in
    absurd (omega (arith, below, low))

pub plus_denotes_none : (radix : ℕ) (word : List ℕ) → radix ≤ 36 → (slice_index word 0 == 43) ≡ true
    → ¬ (IsNumeral radix word × (digits_value radix word < 2 ^ 64))
plus_denotes_none radix word low is = λ digits. plus_no_numeral radix word low is digits.0

-- decimal digits have no `x`
pub no_x : (digits : List ℕ) → ¬ IsNumeral 10 (codes "0x" ++ digits)
no_x digits = λ numeral. absurd (omega (arith, numeral.1.1.0))

-- an argument after `0x` is read as hexadecimal digits
pub hexadecimal_read : (word digits : List ℕ) (answer : Option ℕ) → word ≡ codes "0x" ++ digits
    → SomeIff answer (IsNumeral 16 digits × (digits_value 16 digits < 2 ^ 64)) (digits_value 16 digits)
    → MatchOption answer ((number : ℕ) → ¬ IsOffset word number) (IsOffset word)
hexadecimal_read word digits (Some number) is read = inr (digits, is, (read.0.0, read.0.1, read.1))
hexadecimal_read word digits None is read = λ number denotes. ⊎_elim
    (λ decimal. no_x digits (subst (λ (w : List ℕ). IsNumeral 10 w) is decimal.0))
    (λ other. let same : other.0 ≡ digits = ap (drop 2) (sym other.1 ∙ is) in
    read (subst (λ (ds : List ℕ). IsNumeral 16 ds × (digits_value 16 ds < 2 ^ 64)) same (other.2.0, other.2.1)))
    denotes

-- any other argument is read as decimal digits
pub decimal_read : (word : List ℕ) (answer : Option ℕ) → ((digits : List ℕ) → word ≢ codes "0x" ++ digits)
    → SomeIff answer (IsNumeral 10 word × (digits_value 10 word < 2 ^ 64)) (digits_value 10 word)
    → MatchOption answer ((number : ℕ) → ¬ IsOffset word number) (IsOffset word)
decimal_read word (Some number) lacks read = inl (read.0.0, read.0.1, read.1)
decimal_read word None lacks read = λ number denotes. ⊎_elim
    (λ decimal. read (decimal.0, decimal.1)) (λ other. lacks other.0 other.1) denotes

-- what stands after `0x` are the digits of an argument
pub after_prefix : (word digits : List ℕ) → word ≡ codes "0x" ++ digits → digits ≡ digits_of word
after_prefix word digits is = sym (ap digits_of is)

-- without `0x` all of it is
pub without_prefix : (word : List ℕ) → ((digits : List ℕ) → word ≢ codes "0x" ++ digits) → word ≡ digits_of word
without_prefix word lacks = go (bytes_eq (take 2 word) (codes "0x")) (bytes_eq-Decides (take 2 word) (codes "0x"))
  where
    go : (begins : Bool) → Decides begins (take 2 word ≡ codes "0x") → word ≡ cond begins (drop 2 word) word
    go true decides = absurd (lacks (drop 2 word) (sym (take-append-drop 2 word) ∙ ap (λ prefix. prefix ++ drop 2 word) (decides.0 refl)))
    go false decides = refl
