-- Texts one after another, and what a writer that escapes took.
use Rattle.cli_declarations.proofs.Prelude.{◌≡◌, ◌∙◌, ℕ, zero, suc, ◌+◌, ◌-◌, ◌<◌, eqb, ltb, List, [], ◌∷◌, ◌++◌, length, get_or, drop, map, take, refl, ap, sym, subst, string_bytes, append_assoc, append-nil, length-append, arith, nat_tests, flat_map, flat_map_more, map_more, take_all, WritesInCalls, cut_text, text_limit, AreTexts, Begins, Declared, Ends, Follows}
use Rattle.std.proofs.Math.Seq.{drop-append_seam}
use Rattle.std.specs.List.{FoldsTo, concat}

module _ {X : Type 0} (is_text : X → List ℕ → Type 0) where
  -- one more text
  texts_more : (xs : List X) (x : X) (a b : List ℕ) → AreTexts is_text xs a → is_text x b → AreTexts is_text (xs ++ x ∷ []) (a ++ b)
  texts_more [] x a b are one = (b, one, [], refl, ap (λ t. t ++ b) are ∙ sym (append-nil b))
  texts_more (y ∷ ys) x a b are one = (are.0, are.1, are.2 ++ b, texts_more ys x are.2 b are.3 one, ap (λ t. t ++ b) are.4 ∙ append_assoc are.0 are.2 b)

  -- one more item of a list
  pub gains_more : {Y : Type 0} (f : Y → X) (ys : List Y) (i : ℕ) (d : Y) (first between after : List ℕ) → i < length ys → Follows (AreTexts is_text (map f (take i ys))) first between
      → Follows (is_text (f (get_or ys i d))) between after → Follows (AreTexts is_text (map f (take (i + 1) ys))) first after
  gains_more f ys i d first between after lt before one = (
    before.0 ++ one.0,
    rw (map_more f ys i d lt) (texts_more (map f (take i ys)) (f (get_or ys i d)) before.0 one.0 before.1 one.1),
    one.2 ∙ ap (λ (t : List ℕ). t ++ one.0) before.2 ∙ append_assoc first before.0 one.0,
  )

-- one more item of a list whose texts are appended
pub items_more : {X Y : Type 0} (own : Y → List ℕ) (view : X → Y) (before : List ℕ) (items : List X) (i : ℕ) (d : X) → i < length items
    → (before ++ flat_map own (map view (take i items))) ++ own (view (get_or items i d)) ≡ before ++ flat_map own (map view (take (i + 1) items))
items_more own view before items i d lt =
    flat_map_more own before (map view (take i items)) (view (get_or items i d)) ∙ ap (λ words. before ++ flat_map own words) (sym (map_more view items i d lt))

-- the first items of two lists
take_parts : {X : Type 0} (n : ℕ) (a b : List X) → take n (a ++ b) ≡ take n a ++ take (n - length a) b
take_parts zero a b = let none : 0 - length a ≡ 0 = omega arith in sym (ap (λ m. take m b) none)
take_parts (suc n) [] b = let all : suc n ≡ suc n - 0 = omega arith in ap (λ m. take m b) all
take_parts (suc n) (x ∷ a) b = let less : n - length a ≡ suc n - suc (length a) = omega arith in
    ap (λ t. x ∷ t) (take_parts n a b ∙ ap (λ m. take n a ++ take m b) less)

-- whether a text is longer than the limit, from what a writer still takes after it
longer : (left : ℕ) (text : List ℕ) → left ≡ text_limit + 1 - length text → eqb left 0 ≡ ltb text_limit (length text)
longer left text is = grind (arith, nat_tests)

-- a declaration takes the first bytes of what it is given
abbrev pub Takes : Declared → List ℕ → Declared → Type 0
Takes old text new = (string_bytes new.text ≡ string_bytes old.text ++ take (old.left - 1) text) × (new.left ≡ old.left - length text) × (new.begun ≡ old.begun)

folds_cut : (old : Declared) (parts : List (List ℕ)) (new : Declared) → FoldsTo Takes old parts new → Takes old (concat parts) new
folds_cut old [] new is =
    let none : take {A = ℕ} (old.left - 1) [] ≡ [] = take_all (old.left - 1) [] (omega arith) in
    let all : old.left ≡ old.left - 0 = omega arith in
    subst (λ (last : Declared). Takes old [] last) is (rw none (sym (append-nil (string_bytes old.text))), all, refl)
folds_cut old (part ∷ parts) new (between, one, more) =
    let later = folds_cut between parts new more in
    let room : between.left - 1 ≡ old.left - 1 - length part = omega (arith, one.1) in (
      rw (take_parts (old.left - 1) part (concat parts), ← room, ← append_assoc (string_bytes old.text) (take (old.left - 1) part) (take (between.left - 1) (concat parts)), ← one.0) later.0,
      omega (arith, later.1, one.1, length-append part (concat parts)),
      later.2 ∙ one.2,
    )

-- a text of the file that was written between its beginning and its end has its first bytes, and a mark if it was cut
pub cut : (old begun out new : Declared) (text : List ℕ) → Begins old begun → WritesInCalls Takes begun text out → Ends out new → string_bytes new.text ≡ string_bytes old.text ++ cut_text text
unfolding cut_text
cut old begun out new text begins calls ends =
    let takes : Takes begun text out = subst (λ (t : List ℕ). Takes begun t out) calls.whole (folds_cut begun calls.parts out calls.calls) in
    let room : begun.left - 1 ≡ text_limit = omega (arith, begins.1) in
    let gone : out.left ≡ text_limit + 1 - length text = omega (arith, begins.1, takes.1) in
    let first = take text_limit text in
    let whole : string_bytes out.text ≡ string_bytes old.text ++ first =
    takes.0 ∙ ap (λ (m : ℕ). string_bytes begun.text ++ take m text) room ∙ ap (λ (b : List ℕ). b ++ first) begins.0 in
    let mine : drop out.begun (string_bytes out.text) ≡ first =
    ap (λ (m : ℕ). drop m (string_bytes out.text)) (takes.2 ∙ begins.2) ∙ ap (drop (length (string_bytes old.text))) whole ∙ drop-append_seam (string_bytes old.text) first in
    ends ∙ rw (mine, whole, longer out.left text gone) (append_assoc (string_bytes old.text) first _)
