-- Parts that follow one another, and readers that read them.
use Rattle.blob_values.proofs.Prelude.{nat_tests, ◌≡◌, ◌∙◌, ℕ, ◌≤◌, length-append, Bool, true, false, cond, Option, Some, None, IfSome, List, [], ◌∷◌, ◌++◌, length, take, drop, refl, sym, ap, subst, arith, ⊤, nat_lt, ◌==◌, option_map, eqb-true, little_endian, Reader, IfSome-map, IfSome-cond, Part, sized, string, AreParts, sized_at, string_at}
use Rattle.std.proofs.lemmas.List.{take-append-drop, length-take-le}
use Rattle.std.proofs.Math.Seq.{take-append_seam, drop-append_seam}
use Rattle.packed.specs.Prefix.{unsigned_at}
use Rattle.blob_values.specs.DescriptorReading.{number_at, text_at}
pub use Rattle.blob_values.proofs.DescriptorPartLemmas.{AreBytes, NumbersAreRead}
use Rattle.blob_values.proofs.DescriptorPartLemmas.{bytes_tail, text_found, text_first}

pub parts_append : (ps qs : List Part) (b mid tail : List ℕ) → AreParts ps mid b → AreParts qs tail mid → AreParts (ps ++ qs) tail b
parts_append [] qs b mid tail e h = rw e h
parts_append (p ∷ ps) qs b mid tail f h = (f.0, f.1, f.2, f.3, parts_append ps qs f.1 mid tail f.4 h)

pub parts_split : (ps qs : List Part) (b tail : List ℕ) → AreParts (ps ++ qs) tail b → (mid : List ℕ) × AreParts ps mid b × AreParts qs tail mid
parts_split [] qs b tail h = (b, refl, h)
parts_split (p ∷ ps) qs b tail f =
    let s = parts_split ps qs f.1 tail f.4 in
    (s.0, (f.0, f.1, f.2, f.3, s.1), s.2)

-- ---- bytes

pub bytes_after : (ps : List Part) (b tail : List ℕ) → AreParts ps tail b → AreBytes b → AreBytes tail
bytes_after [] b tail e h = subst AreBytes e h
bytes_after (p ∷ ps) b tail f h = bytes_after ps f.1 tail f.4 (bytes_tail f.0 f.1 (subst AreBytes f.2 h))

-- ---- facts of the value in an option

pub self_some : {A : Type 0} (o : Option A) → IfSome o (λ x. o ≡ Some x)
self_some None = tt
self_some (Some x) = refl

pub weaker_some : {A : Type 0} (P Q : A → Type 0) (o : Option A) → IfSome o P → ((x : A) → P x → Q x) → IfSome o Q
weaker_some P Q None h k = tt
weaker_some P Q (Some x) h k = k x h

-- ---- readers

-- the value is good, and the bytes begin with its parts
pub record Takes {A : Type 0} (parts : A → List Part) (Good : A → Type 0) (b : List ℕ) (x : A × List ℕ) : Type 0 where
  pub good : Good x.0
  pub are : AreParts (parts x.0) x.1 b

-- what is read is encoded so, and what is encoded so is read
pub record Reads {A : Type 0} (r : Reader A) (parts : A → List Part) (Good : A → Type 0) : Type 0 where
  pub found : (b : List ℕ) → AreBytes b → IfSome (r b) (Takes parts Good b)
  pub again : (b tail : List ℕ) (v : A) → Good v → AreParts (parts v) tail b → r b ≡ Some (v, tail)

abbrev pub Any : {A : Type 0} → A → Type 0
Any x = ⊤

-- ---- numbers

sized_found : (count : ℕ) (b : List ℕ) → IfSome (sized_at count b) (Takes (λ n. sized count n ∷ []) (λ n. Any n) b)
unfolding sized_at
sized_found count b =
    IfSome-cond (Takes (λ n. sized count n ∷ []) (λ n. Any n) b) (nat_lt (length b) count) None (Some (little_endian (take count b), drop count b)) (λ _. tt)
    (λ long.
    let within : count ≤ length b = grind (arith, nat_tests, long) in
    record {
      good = tt;
      are = (take count b, drop count b, sym (take-append-drop count b), record { long = length-take-le count b within; equal = refl }, refl);
    })

sized_seam : (n : ℕ) (head remainder : List ℕ) → n ≡ little_endian head → sized_at (length head) (head ++ remainder) ≡ Some (n, remainder)
unfolding sized_at
sized_seam n head remainder e =
    let long : nat_lt (length (head ++ remainder)) (length head) ≡ false = grind (arith, nat_tests, length-append head remainder) in
    rw (long, take-append_seam head remainder, drop-append_seam head remainder, e) refl

pub sized_reads : (count : ℕ) → Reads (sized_at count) (λ n. sized count n ∷ []) (λ n. Any n)
sized_reads count = record {
  found = λ b h. sized_found count b;
  again = λ b tail n _ f. rw (f.2, sym f.3.long) (rw (sym f.4) (sized_seam n f.0 f.1 f.3.equal));
}

-- ---- strings

abbrev pub string_parts : Option (List ℕ) → List Part
string_parts t = string t ∷ []

string_found : NumbersAreRead → (b : List ℕ) → AreBytes b → IfSome (string_at b) (Takes string_parts (λ t. Any t) b)
unfolding string_at
string_found known [] h = tt
string_found known (c ∷ b) h =
    IfSome-cond (Takes string_parts (λ t. Any t) (c ∷ b)) (c == 0xFF) (Some (None, b)) _
    (λ null. record { good = tt; are = (c ∷ [], b, refl, ap (λ (x : ℕ). x ∷ []) (eqb-true c 0xFF null), refl) })
    (λ _. IfSome-map (λ x. text_at (c ∷ b) ≡ Some x) (Takes string_parts (λ t. Any t) (c ∷ b)) (λ x. (Some x.0, x.1)) (text_at (c ∷ b)) (self_some (text_at (c ∷ b)))
    (λ x read. let first = text_found known (c ∷ b) x h read in record { good = tt; are = (first.head, x.1, first.split, first.is, refl) }))

-- 0xFF begins no packed number
no_null : (c : ℕ) (b : List ℕ) (x : List ℕ × List ℕ) → text_at (c ∷ b) ≡ Some x → (null : Bool) → (c == 0xFF) ≡ null
    → cond {A = Option (Option (List ℕ) × List ℕ)} null (Some (None, b)) (option_map (λ y. (Some y.0, y.1)) (text_at (c ∷ b))) ≡ Some (Some x.0, x.1)
unfolding text_at number_at unsigned_at
no_null c b x e true null =
    let bad : text_at (0xFF ∷ b) ≡ Some x = subst (λ (y : ℕ). text_at (y ∷ b) ≡ Some x) (eqb-true c 0xFF null) e in
    cc
no_null c b x e false null = rw e refl

string_again : NumbersAreRead → (b tail : List ℕ) (v : Option (List ℕ)) → AreParts (string_parts v) tail b → string_at b ≡ Some (v, tail)
unfolding string_at
string_again known b tail None f = rw (f.2, f.3, f.4) refl
string_again known b tail (Some t) f =
    let first = text_first known t [] tail b f in
    ap (λ l. string_at l) first.2 ∙ no_null first.0 first.1 (t, f.1) first.3 (first.0 == 0xFF) refl ∙ ap (λ (l : List ℕ). Some (Some t, l)) f.4

pub string_reads : NumbersAreRead → Reads string_at string_parts (λ t. Any t)
string_reads known = record {
  found = string_found known;
  again = λ b tail v _ f. string_again known b tail v f;
}
