-- The bytes of texts that are counted.
use Rattle.checks.proofs.Prelude.{◌≡◌, ◌≢◌, ℕ, zero, suc, ◌+◌, ◌-◌, ◌%◌, ◌/◌, ◌<◌, ◌≤◌, false, List, [], ◌∷◌, length, take, drop, slice_index, nat_eq, Option, Some, None, sym, ap, ◌∙◌, cond, eq-eqb, arith, length-drop, unwrap_or, eqb-true, nat_tests, get_or-take, length-take-le, IsFirstByte, is_byte, bytes_before_nul, text_length, Reaches}
use Rattle.heap_entries.proofs.TextLemmas.{ended_length, none_in}
use Rattle.checks.proofs.TextLemmas.{ending_ended}

-- the number of bytes before the first NUL, by what is known of each byte
before_nul_is : (bytes : List ℕ) (n : ℕ) → n ≤ length bytes → ((k : ℕ) → k < n → slice_index bytes k ≢ 0) → (n < length bytes → slice_index bytes n ≡ 0)
    → bytes_before_nul bytes ≡ n
before_nul_is [] n few none nul = omega (arith, few)
before_nul_is (byte ∷ bytes) zero few none nul =
    let here : byte ≡ 0 = nul (omega arith) in
    ap (λ b. cond b 0 (suc (bytes_before_nul bytes))) (eq-eqb byte 0 here)
before_nul_is (byte ∷ bytes) (suc n) few none nul =
    let here : byte ≢ 0 = none 0 (omega arith) in
    let test : nat_eq byte 0 ≡ false = grind (arith, nat_tests, here) in
    ap (λ b. cond b 0 (suc (bytes_before_nul bytes))) test
    ∙ ap suc (before_nul_is bytes n (omega (arith, few)) (λ k below. none (suc k) (omega (arith, below))) (λ below. nul (omega (arith, below))))

-- the offset of the first NUL that is found
pub found_before_nul : (bytes : List ℕ) (found : Option ℕ) → IsFirstByte (is_byte 0) bytes found → unwrap_or found (length bytes) ≡ bytes_before_nul bytes
found_before_nul bytes None is =
    sym (before_nul_is bytes (length bytes) (omega arith) (λ k below z. is k (omega arith) below (eq-eqb _ 0 z)) (λ below. absurd (omega (arith, below))))
found_before_nul bytes (Some n) is =
    sym (before_nul_is bytes n (omega (arith, is.0.high)) (λ k below z. is.0.before k (omega arith) below (eq-eqb _ 0 z)) (λ below. eqb-true _ 0 is.1))

-- within a text that reaches an end, no NUL is before the end
pub none_before : (heap : List ℕ) (start end index room : ℕ) → Reaches heap start end → start ≤ index → index < end → index + room ≡ end
    → bytes_before_nul (take room (drop index heap)) ≡ room
none_before heap start end index room known low high is =
    let ended = ending_ended heap start known.text known.ended index low (omega (arith, known.long)) in
    let remainder = drop (index - start) known.text in
    let long : room ≤ length remainder = omega (arith, length-drop (index - start) known.text, known.long) in
    let within : length (take room (drop index heap)) ≡ room = length-take-le room (drop index heap)
    (omega (arith, length-drop index heap, ended_length heap index remainder ended, long)) in
    before_nul_is (take room (drop index heap)) room (omega (arith, within))
    (λ k below z. none_in heap index remainder ended k (omega (arith, below, long)) (sym (get_or-take room (drop index heap) k 0 below) ∙ z))
    (λ below. absurd (omega (arith, below, within)))

-- a text that is not at index 0
pub text_length_is : (heap : List ℕ) (index part n : ℕ) → 0 < index → part ≡ length heap / 1024 + 1
    → bytes_before_nul (take (part - index % part) (drop index heap)) ≡ n → n ≡ text_length heap index
text_length_is heap zero part n some is same = absurd (omega arith)
text_length_is heap (suc before) part n some is same = rw is at (sym same)
