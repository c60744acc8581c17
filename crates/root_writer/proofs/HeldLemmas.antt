-- The streams that have bytes, kind by kind.
use Rattle.root_writer.proofs.Prelude.{◌≡◌, ℕ, ◌+◌, ◌<◌, ◌≤◌, Bool, true, false, cond, ltb, List, [], ◌∷◌, ◌++◌, length, get_or, set, take, drop, filter, sym, ap, ◌∙◌, append_assoc, arith, nat_tests, drop_more, take_more_set, Kind, Tables, kinds_in_order}

pub has_bytes : (count size : ℕ) → count ≡ size → 0 < count → ltb 0 size ≡ true
has_bytes count size same some = grind (arith, nat_tests)

pub has_none : (count size : ℕ) → count ≡ size → count ≤ 0 → ltb 0 size ≡ false
has_none count size same none = grind (arith, nat_tests)

next_kind : (test : Kind → Bool) (i : ℕ) (answer : Bool) → i < 5 → test (get_or kinds_in_order i Tables) ≡ answer
    → filter test (drop i kinds_in_order)
    ≡ cond answer (get_or kinds_in_order i Tables ∷ filter test (drop (i + 1) kinds_in_order)) (filter test (drop (i + 1) kinds_in_order))
next_kind test i answer below is =
    let tail = filter test (drop (i + 1) kinds_in_order) in
    ap (filter test) (drop_more kinds_in_order i Tables below) ∙ ap (λ b. cond b (get_or kinds_in_order i Tables ∷ tail) tail) is

pub kept : (test : Kind → Bool) (kinds whole : List Kind) (count i : ℕ) → i < 5 → count < length kinds → test (get_or kinds_in_order i Tables) ≡ true
    → take count kinds ++ filter test (drop i kinds_in_order) ≡ whole
    → take (count + 1) (set kinds count (get_or kinds_in_order i Tables)) ++ filter test (drop (i + 1) kinds_in_order) ≡ whole
kept test kinds whole count i below room is e =
    let kind = get_or kinds_in_order i Tables in
    let tail = filter test (drop (i + 1) kinds_in_order) in
    ap (λ list. list ++ tail) (take_more_set kinds count kind room)
    ∙ append_assoc (take count kinds) (kind ∷ []) tail
    ∙ ap (λ list. take count kinds ++ list) (sym (next_kind test i true below is))
    ∙ e

pub passed : (test : Kind → Bool) (kinds whole : List Kind) (count i : ℕ) → i < 5 → test (get_or kinds_in_order i Tables) ≡ false
    → take count kinds ++ filter test (drop i kinds_in_order) ≡ whole → take count kinds ++ filter test (drop (i + 1) kinds_in_order) ≡ whole
passed test kinds whole count i below is e = ap (λ list. take count kinds ++ list) (sym (next_kind test i false below is)) ∙ e
