-- The bits of the tables that pass a test, as one number.
use Rattle.schema.proofs.Prelude.{◌≡◌, ℕ, zero, suc, ◌+◌, ◌-◌, ◌*◌, ◌/◌, ◌%◌, ◌^◌, ◌<◌, ◌≤◌, Bool, true, false, cond, List, [], ◌∷◌, length, get_or, take, refl, sym, ap, ◌∙◌, arith, lit<, eqb, pow-le-pow_right, sum_by-cons, sum_by_more, pow_pos, pow-add, shr-shr, div-mul-add, one_shl, TableId, Module, tables, table_number, table_index_of, bits_of, has_bit, NamesTables, table_at_index, table_index_below, number_below, length-tables, IsAscending, ascending, above}

abbrev pub bit : Bool → ℕ
bit b = cond b 1 0

bits_cons : (test : TableId → Bool) (table : TableId) (listed : List TableId) → bits_of test (table ∷ listed) ≡ bit (test table) * 2 ^ table_number table + bits_of test listed
unfolding bits_of
bits_cons test table listed = sum_by-cons (λ t. cond (test t) (2 ^ table_number t) 0) table listed ∙ ap (λ n. n + bits_of test listed) (times (test table))
  where
    times : (b : Bool) → cond b (2 ^ table_number table) 0 ≡ bit b * 2 ^ table_number table
    times true = omega arith
    times false = omega arith

-- the bits are at these numbers and above
multiple : (test : TableId → Bool) (low : ℕ) (listed : List TableId) → IsAscending low listed → (q : ℕ) × (bits_of test listed ≡ q * 2 ^ low)
unfolding bits_of
multiple test low [] up = (0, omega arith)
multiple test low (table ∷ listed) up =
    let n = table_number table in
    let tail = multiple test (suc n) listed up.1 in
    let more : low + (n - low) ≡ n = omega (arith, up.0) in
    let power : 2 ^ n ≡ 2 ^ low * 2 ^ (n - low) = ap (λ k. 2 ^ k) (sym more) ∙ pow-add 2 low (n - low) in
    let next : 2 ^ suc n ≡ 2 * 2 ^ n = pow-suc' n in
    let b = bit (test table) in
    ((b + 2 * tail.0) * 2 ^ (n - low), bits_cons test table listed ∙ ap (λ k. b * 2 ^ n + k) (tail.1 ∙ ap (λ p. tail.0 * p) next) ∙ sums b tail.0 (2 ^ n) ∙ ap (λ p. (b + 2 * tail.0) * p) power ∙ turned (b + 2 * tail.0) (2 ^ low) (2 ^ (n - low)))
  where
    one_more : (n : ℕ) → suc n ≡ 1 + n
    one_more n = omega arith

    pow-suc' : (n : ℕ) → 2 ^ suc n ≡ 2 * 2 ^ n
    pow-suc' n = ap (λ k. 2 ^ k) (one_more n) ∙ pow-add 2 1 n

    sums : (b q p : ℕ) → b * p + q * (2 * p) ≡ (b + 2 * q) * p
    sums b q p = omega arith

    turned : (a p r : ℕ) → a * (p * r) ≡ a * r * p
    turned a p r = omega arith

half : (b q p : ℕ) → b < 2 → 0 < p → (q * (2 * p) + b * p) / (2 * p) ≡ q
half b q p small some = div-mul-add q (2 * p) (b * p) (below b small)
  where
    below : (b : ℕ) → b < 2 → b * p < 2 * p
    below zero h = omega arith
    below (suc zero) h = omega arith
    below (suc (suc b)) h = absurd (omega arith)

bit_small : (b : Bool) → bit b < 2
bit_small true = lit< tt
bit_small false = lit< tt

first_bit : (b : Bool) (q p : ℕ) → 0 < p → ((bit b + 2 * q) * p) / p % 2 ≡ bit b
first_bit b q p some = ap (λ n. n / p % 2) (sym (zero_more ((bit b + 2 * q) * p))) ∙ ap (λ n. n % 2) (div-mul-add (bit b + 2 * q) p 0 some) ∙ low b
  where
    zero_more : (n : ℕ) → n + 0 ≡ n
    zero_more n = omega arith

    low : (b : Bool) → (bit b + 2 * q) % 2 ≡ bit b
    low true = omega arith
    low false = omega arith

power_next : (n : ℕ) → 2 ^ suc n ≡ 2 * 2 ^ n
power_next n = ap (λ k. 2 ^ k) one_more ∙ pow-add 2 1 n
  where
    one_more : suc n ≡ 1 + n
    one_more = omega arith

-- the bits from a number on
from_bit : (test : TableId → Bool) (table : TableId) (listed : List TableId) → IsAscending (suc (table_number table)) listed
    → (q : ℕ) × (bits_of test (table ∷ listed) ≡ bit (test table) * 2 ^ table_number table + q * (2 * 2 ^ table_number table)) × (bits_of test listed ≡ q * (2 * 2 ^ table_number table))
from_bit test table listed up =
    let n = table_number table in
    let tail = multiple test (suc n) listed up in
    let is = tail.1 ∙ ap (λ p. tail.0 * p) (power_next n) in
    (tail.0, bits_cons test table listed ∙ ap (λ k. bit (test table) * 2 ^ n + k) is, is)

bit_at : (test : TableId → Bool) (low : ℕ) (listed : List TableId) (i : ℕ) (none : TableId) → IsAscending low listed → i < length listed
    → bits_of test listed / 2 ^ table_number (get_or listed i none) % 2 ≡ bit (test (get_or listed i none))
bit_at test low [] i none up below = absurd (omega arith)
bit_at test low (table ∷ listed) zero none up below =
    let n = table_number table in
    let from = from_bit test table listed up.1 in
    ap (λ k. k / 2 ^ n % 2) (from.1 ∙ sums (bit (test table)) from.0 (2 ^ n)) ∙ first_bit (test table) from.0 (2 ^ n) (pow_pos n)
  where
    sums : (b q p : ℕ) → b * p + q * (2 * p) ≡ (b + 2 * q) * p
    sums b q p = omega arith
bit_at test low (table ∷ listed) (suc i) none up below =
    let n = table_number table in
    let m = table_number (get_or listed i none) in
    let from = from_bit test table listed up.1 in
    let high = above (suc n) n listed i none up.1 (omega arith) in
    let more : suc n + (m - suc n) ≡ m = omega (arith, high) in
    let split = λ (x : ℕ). ap (λ k. x / 2 ^ k) (sym more) ∙ sym (shr-shr x (suc n) (m - suc n)) ∙ ap (λ p. x / p / 2 ^ (m - suc n)) (power_next n) in
    let whole : bits_of test (table ∷ listed) / (2 * 2 ^ n) ≡ from.0 = ap (λ k. k / (2 * 2 ^ n)) (from.1 ∙ turned (bit (test table) * 2 ^ n) (from.0 * (2 * 2 ^ n))) ∙ half (bit (test table)) from.0 (2 ^ n) (bit_small (test table)) (pow_pos n) in
    let tail : bits_of test listed / (2 * 2 ^ n) ≡ from.0 = ap (λ k. k / (2 * 2 ^ n)) (from.2 ∙ sym (plus_zero (from.0 * (2 * 2 ^ n)))) ∙ half 0 from.0 (2 ^ n) (lit< tt) (pow_pos n) in
    ap (λ k. k % 2) (split (bits_of test (table ∷ listed)) ∙ ap (λ k. k / 2 ^ (m - suc n)) (whole ∙ sym tail) ∙ sym (split (bits_of test listed)))
    ∙ bit_at test (suc n) listed i none up.1 (omega arith)
  where
    turned : (a b : ℕ) → a + b ≡ b + a
    turned a b = omega arith

    plus_zero : (n : ℕ) → n + 0 * 2 ^ table_number table ≡ n
    plus_zero n = omega arith

-- the bit of a table is set if and only if it passes
pub bit_is : (test : TableId → Bool) (table : TableId) → bits_of test tables / 2 ^ table_number table % 2 ≡ bit (test table)
bit_is test table =
    rw (← table_at_index table) (bit_at test 0 tables (table_index_of table) Module ascending (omega (arith, table_index_below table, length-tables)))

-- the bits of the tables that pass a test are set if and only if the test passes
pub has_bit_of : (test : TableId → Bool) (table : TableId) → has_bit (bits_of test tables) table ≡ test table
has_bit_of test table = ap (λ n. eqb n 1) (bit_is test table) ∙ tested (test table)
  where
    tested : (b : Bool) → eqb (bit b) 1 ≡ b
    tested true = refl
    tested false = refl

-- a test is that of the bits computed from it
pub tests_are : (test : TableId → Bool) → ◌≡◌ {A = TableId → Bool} (has_bit (bits_of test tables)) test
tests_are test = λ i table. has_bit_of test table i

-- a Valid that names only tables is the bits of the tables that it names
pub names_tables : (valid : ℕ) → NamesTables valid → bits_of (has_bit valid) tables ≡ valid
names_tables valid named =
    ap (λ (n : ℕ). bits_of (has_bit n) tables) named.bits ∙ ap (λ (test : TableId → Bool). bits_of test tables) (tests_are named.counted) ∙ sym named.bits

-- the bits of more tables
pub bits_more : (test : TableId → Bool) (i : ℕ) → i < 38 → bits_of test (take (i + 1) tables) ≡ bits_of test (take i tables) + bit (test (get_or tables i Module)) * 2 ^ table_number (get_or tables i Module)
unfolding bits_of
bits_more test i below =
    sum_by_more (λ t. cond (test t) (2 ^ table_number t) 0) tables i Module (omega (arith, length-tables)) ∙ ap (λ n. bits_of test (take i tables) + n) (times (test (get_or tables i Module)))
  where
    times : (b : Bool) → cond b (2 ^ table_number (get_or tables i Module)) 0 ≡ bit b * 2 ^ table_number (get_or tables i Module)
    times true = omega arith
    times false = omega arith

-- a table's bit is one of the low 45
power_low : (table : TableId) → 2 ^ table_number table ≤ 2 ^ 44
power_low table = let low : table_number table ≤ 44 = omega (arith, number_below table) in pow-le-pow_right (lit< tt) {i = table_number table} {j = 44} low

-- the bit of one more table
pub bit_set : (valid i bits number : ℕ) (table : TableId) → i < 38 → table ≡ get_or tables i Module → number ≡ table_number table → bits ≡ bits_of (has_bit valid) (take i tables) → has_bit valid table ≡ true
    → bits + 1 * 2 ^ number % 2 ^ 64 ≡ bits_of (has_bit valid) (take (i + 1) tables)
bit_set valid i bits number table below t n e set =
    let more : bits_of (has_bit valid) (take (i + 1) tables) ≡ bits_of (has_bit valid) (take i tables) + bit (has_bit valid table) * 2 ^ table_number table = rw t (bits_more (has_bit valid) i below) in
    let one : 1 * 2 ^ number % 2 ^ 64 ≡ 2 ^ table_number table = rw n (one_shl (table_number table) 64 (omega (arith, number_below table))) in
    let this : bit (has_bit valid table) * 2 ^ table_number table ≡ 2 ^ table_number table = ap (λ b. bit b * 2 ^ table_number table) set ∙ omega arith in
    omega (arith, more, one, this)

pub bit_clear : (valid i bits : ℕ) (table : TableId) → i < 38 → table ≡ get_or tables i Module → bits ≡ bits_of (has_bit valid) (take i tables) → has_bit valid table ≡ false
    → bits ≡ bits_of (has_bit valid) (take (i + 1) tables)
bit_clear valid i bits table below t e clear =
    let more : bits_of (has_bit valid) (take (i + 1) tables) ≡ bits_of (has_bit valid) (take i tables) + bit (has_bit valid table) * 2 ^ table_number table = rw t (bits_more (has_bit valid) i below) in
    let this : bit (has_bit valid table) * 2 ^ table_number table ≡ 0 = ap (λ b. bit b * 2 ^ table_number table) clear ∙ omega arith in
    omega (arith, more, this)

-- the bits of i tables are bounded
pub bit_low : (i bits number : ℕ) (table : TableId) → bits ≤ i * 2 ^ 44 → number ≡ table_number table → bits + 1 * 2 ^ number % 2 ^ 64 ≤ (i + 1) * 2 ^ 44
bit_low i bits number table low n =
    let one : 1 * 2 ^ number % 2 ^ 64 ≡ 2 ^ table_number table = rw n (one_shl (table_number table) 64 (omega (arith, number_below table))) in
    let power = power_low table in
    omega (arith, one, power)

pub no_bits : (test : TableId → Bool) → bits_of test [] ≡ 0
unfolding bits_of
no_bits test = refl

-- Valid has no bit from 45 on
pub bits_low : (test : TableId → Bool) → bits_of test tables < 2 ^ 64
bits_low test = let small = bits_below test tables in omega (arith, small, length-tables)
  where
    bits_below : (test : TableId → Bool) (listed : List TableId) → bits_of test listed ≤ length listed * 2 ^ 44
    bits_below test [] = let none = no_bits test in omega arith
    bits_below test (table ∷ listed) =
        let tail = bits_below test listed in
        let more = bits_cons test table listed in
        let this = term_low (test table) table in
        omega (arith, tail, more, this)
      where
        term_low : (b : Bool) (t : TableId) → bit b * 2 ^ table_number t ≤ 2 ^ 44
        term_low true t = let low = power_low t in omega arith
        term_low false t = omega arith
