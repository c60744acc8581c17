-- Headers one after another.
use Rattle.std.proofs.Common.{◌≡◌, ℕ, zero, suc, ◌+◌, ◌<◌, ◌≤◌, Bool, true, false, cond, List, [], ◌∷◌, ◌++◌, Some, None, inl, inr, refl, sym, ap, ◌∙◌, arith, add-one, append_assoc}
use Rattle.root.proofs.Prelude.{append-nil, cases_lt, find, bytes_eq, AllHold, rules_from, HoldBefore, before_of_all, header_at, header_length, header_offset, headers_before, rules_of_header, AllShow, Header, named}
use Rattle.root.proofs.HeaderLemmas.{shows_from_has}

-- a search in two lists
pub find_root_header : {X : Type 0} (test : X → Bool) (xs ys : List X) (y : X) → find test xs ≡ Some y → find test (xs ++ ys) ≡ Some y
find_root_header test [] ys y h = cc
find_root_header test (x ∷ xs) ys y h = go (test x) (find_root_header test xs ys y) h where
  go : (b : Bool) → (find test xs ≡ Some y → find test (xs ++ ys) ≡ Some y) → cond b (Some x) (find test xs) ≡ Some y → cond b (Some x) (find test (xs ++ ys)) ≡ Some y
  go true tail e = e
  go false tail e = tail e

pub find_back : {X : Type 0} (test : X → Bool) (xs ys : List X) → find test xs ≡ None → find test (xs ++ ys) ≡ find test ys
find_back test [] ys h = refl
find_back test (x ∷ xs) ys h = go (test x) (find_back test xs ys) h where
  go : (b : Bool) → (find test xs ≡ None → find test (xs ++ ys) ≡ find test ys) → cond b (Some x) (find test xs) ≡ None → cond b (Some x) (find test (xs ++ ys)) ≡ find test ys
  go true tail e = cc
  go false tail e = tail e

pub found_alone : {X : Type 0} (test : X → Bool) (x y : X) → x ≡ y → test y ≡ true → find test (x ∷ []) ≡ Some y
found_alone test x y e same = rw (e, same) refl

pub missing_alone : {X : Type 0} (test : X → Bool) (x y : X) → x ≡ y → test y ≡ false → find test (x ∷ []) ≡ None
missing_alone test x y e differs = rw (e, differs) refl

pub offset_more : (root : List ℕ) (i place : ℕ) (header : Header) → place ≡ header_offset root i → header ≡ header_at root place → header.place + header_length header ≡ header_offset root (i + 1)
offset_more root i place header p e = rw (e, p, add-one i) refl

pub headers_before_more : (root : List ℕ) (i : ℕ) → headers_before root (i + 1) ≡ headers_before root i ++ header_at root (header_offset root i) ∷ []
headers_before_more root i = rw (add-one i) refl

-- the first i headers are a prefix of any longer list of headers
pub headers_before_prefix : (root : List ℕ) (i count : ℕ) → i ≤ count → (tail : List Header) × (headers_before root count ≡ headers_before root i ++ tail)
headers_before_prefix root i zero h = let e : i ≡ 0 = omega arith in ([], rw e refl)
headers_before_prefix root i (suc count) h = elim (cases_lt count i) [
  | inl lt ↦ let e : i ≡ suc count = omega arith in ([], rw e (sym (append-nil _)))
  | inr le ↦
      let before = headers_before_prefix root i count le in
      (before.0 ++ header_at root (header_offset root count) ∷ [], ap (λ (hs : List Header). hs ++ header_at root (header_offset root count) ∷ []) before.1 ∙ append_assoc (headers_before root i) before.0 (header_at root (header_offset root count) ∷ []))
]

-- if none of i headers has a name, nor has the next one, then none of i + 1 has it
pub named_more : (root name : List ℕ) (i place : ℕ) (header : Header) → place ≡ header_offset root i → header ≡ header_at root place → bytes_eq header.name name ≡ false
    → named name (headers_before root i) ≡ None → named name (headers_before root (i + 1)) ≡ None
named_more root name i place header p e differs none =
    let is : header_at root (header_offset root i) ≡ header = sym (e ∙ ap (header_at root) p) in
    let test : Header → Bool = λ h. bytes_eq h.name name in
    let back = find_back test (headers_before root i) (header_at root (header_offset root i) ∷ []) none in
    ap (find test) (headers_before_more root i) ∙ back ∙ missing_alone test _ header is differs

-- if the next one has the name, it is the first with it among any number of headers
pub named_here : (root name : List ℕ) (i count place : ℕ) (header : Header) → i < count → place ≡ header_offset root i → header ≡ header_at root place → bytes_eq header.name name ≡ true
    → named name (headers_before root i) ≡ None → Some header ≡ named name (headers_before root count)
named_here root name i count place header lt p e same none =
    let is : header_at root (header_offset root i) ≡ header = sym (e ∙ ap (header_at root) p) in
    let test : Header → Bool = λ h. bytes_eq h.name name in
    let back = find_back test (headers_before root i) (header_at root (header_offset root i) ∷ []) none in
    let here : named name (headers_before root (i + 1)) ≡ Some header = ap (find test) (headers_before_more root i) ∙ back ∙ found_alone test _ header is same in
    let all = headers_before_prefix root (i + 1) count (omega arith) in
    sym (ap (named name) all.1 ∙ find_root_header test (headers_before root (i + 1)) all.0 header here)

-- if the rules for the first `count` headers hold, each of these headers is valid
pub shows_from_before : (root : List ℕ) (count : ℕ) → HoldBefore (rules_of_header root) 0 count → AllShow root count
shows_from_before root count before i lt = shows_from_has root (header_offset root i) (before.each i (omega arith) lt).0

pub shows_from_all : (root : List ℕ) (count : ℕ) → AllHold (rules_from (rules_of_header root) 0 count) → AllShow root count
shows_from_all root count all = shows_from_before root count (before_of_all (rules_of_header root) count all)
