-- Parts that follow one another, and the readers of numbers and texts.
use Rattle.std.proofs.lemmas.Bool.Decides.{nat_tests}
use Rattle.blob_values.proofs.DescriptorPrelude.{◌≡◌, ◌∙◌, ℕ, suc, ◌<◌, ◌≤◌, ◌^◌, length-append, Bool, true, false, cond, Option, Some, None, IfSome, List, [], ◌∷◌, ◌++◌, length, take, drop, get_or, append_assoc, refl, sym, ap, subst, arith, nat_lt, option_map, cond_both, option_and_then_some, Part, number, text, IsPart, AreParts, byte, option_and_then, append-nil, at_end, number_at, text_at, text_in}
use Rattle.std.specs.Str.{is_utf8, IsUtf8}
use Rattle.std.proofs.lemmas.List.{take-append-drop, length-take-le}
use Rattle.std.proofs.lemmas.Str.{IsUtf8-from_is_utf8, is_utf8-from_IsUtf8}
use Rattle.std.proofs.Math.Seq.{take-append_seam, drop-append_seam}
use Rattle.packed.specs.Packed.{IsPacked}
use Rattle.packed.specs.Prefix.{unsigned_at}

-- ---- the bytes of a text, as src/ finds them

pub text_read : (n : ℕ) (b leading back t : List ℕ) → n ≤ length b → leading ≡ take n b → back ≡ drop n b → t ≡ leading → IsUtf8 leading → Some (t, back) ≡ text_in n b
text_read n b leading back t within is_prefix is_back same utf8 =
    let long : nat_lt (length b) n ≡ false = grind (arith, nat_tests, within) in
    let valid : is_utf8 (take n b) ≡ true = is_utf8-from_IsUtf8 (take n b) (subst IsUtf8 is_prefix utf8) in
    rw (long, valid, same, is_prefix, is_back) refl

pub text_bad : (n : ℕ) (b leading : List ℕ) → n ≤ length b → leading ≡ take n b → ¬ (IsUtf8 leading) → None ≡ text_in n b
text_bad n b leading within is_prefix bad =
    let long : nat_lt (length b) n ≡ false = grind (arith, nat_tests, within) in
    rw long (no_text (is_utf8 (take n b)) refl)
  where
    no_text : (valid : Bool) → is_utf8 (take n b) ≡ valid → ◌≡◌ {A = Option (List ℕ × List ℕ)} None (cond valid (Some (take n b, drop n b)) None)
    no_text true e = absurd (bad (subst IsUtf8 (sym is_prefix) (IsUtf8-from_is_utf8 (take n b) e)))
    no_text false e = refl

-- ---- options

pub map_some : {A B P : Type 0} (f : A → B) (o : Option A) (y : B) → option_map f o ≡ Some y → ((x : A) → o ≡ Some x → f x ≡ y → P) → P
map_some f None y e k = cc
map_some f (Some x) y e k = k x refl (cc)

-- ---- bytes

abbrev pub AreBytes : List ℕ → Type 0
AreBytes b = (k : ℕ) → get_or b k 0 < 2 ^ 8

pub bytes_tail : (a b : List ℕ) → AreBytes (a ++ b) → AreBytes b
bytes_tail [] b h = h
bytes_tail (x ∷ a) b h = bytes_tail a b (λ k. h (suc k))

-- ---- parts

-- the bytes are those of a part, and then the tail, which are bytes
pub record Begins (part : Part) (tail bytes : List ℕ) : Type 0 where
  pub head : List ℕ
  pub split : bytes ≡ head ++ tail
  pub is : IsPart part head
  pub bytes_of_tail : AreBytes tail

pub byte_begins : (c n : ℕ) (b : List ℕ) → AreBytes (c ∷ b) → c ≡ n → Begins (byte n) b (c ∷ b)
byte_begins c n b h e = record { head = c ∷ []; split = refl; is = ap (λ (x : ℕ). x ∷ []) e; bytes_of_tail = λ k. h (suc k) }

-- a good value has these parts and then others, which are the bytes
pub record Ends {A : Type 0} (parts : A → List Part) (Good : A → Type 0) (v : A) (ps : List Part) (b : List ℕ) : Type 0 where
  pub others : List Part
  pub whole : parts v ≡ ps ++ others
  pub are : AreParts others [] b
  pub good : Good v

module _ {A : Type 0} {parts : A → List Part} {Good : A → Type 0} {v : A} where
  -- nothing remains after the parts of the value
  pub at_ended : (w : A) → Good w → (b : List ℕ) → at_end w b ≡ Some v → Ends parts Good v (parts w) b
  at_ended w good [] e =
      let same : w ≡ v = cc in
      subst (λ (x : A). Ends parts Good x (parts w) []) same (record { others = []; whole = sym (append-nil (parts w)); are = refl; good = good })
  at_ended w good (c ∷ b) e = cc

  pub part_then : {part : Part} {ps : List Part} {b c : List ℕ} → Begins part c b → Ends parts Good v (ps ++ part ∷ []) c → Ends parts Good v ps b
  part_then {part = part} {ps = ps} {c = c} first more = record {
    others = part ∷ more.others;
    whole = more.whole ∙ append_assoc ps (part ∷ []) more.others;
    are = (first.head, c, first.split, first.is, more.are);
    good = more.good;
  }

-- packed numbers at the start are read as they are encoded
pub record NumbersAreRead : Type 0 where
  pub found : (b : List ℕ) → ((k : ℕ) → get_or b k 0 < 2 ^ 8) → IfSome (unsigned_at b) (λ read. (read.1 ≤ length b) × IsPacked read.0 (take read.1 b))
  pub again : (n : ℕ) (prefix tail : List ℕ) → IsPacked n prefix → unsigned_at (prefix ++ tail) ≡ Some (n, length prefix)

module _ (known : NumbersAreRead) where
  pub number_found : (b : List ℕ) (x : ℕ × List ℕ) → AreBytes b → number_at b ≡ Some x → Begins (number x.0) x.1 b
  unfolding number_at
  number_found b x h e =
      map_some (λ y. (y.0, drop y.1 b)) (unsigned_at b) x e
      (λ y read same.
      let packed = subst (λ o. IfSome o (λ r. (r.1 ≤ length b) × IsPacked r.0 (take r.1 b))) read (known.found b h) in
      let whole : b ≡ take y.1 b ++ drop y.1 b = sym (take-append-drop y.1 b) in
      subst (λ (z : ℕ × List ℕ). Begins (number z.0) z.1 b) same
      (record { head = take y.1 b; split = whole; is = packed.1; bytes_of_tail = bytes_tail (take y.1 b) (drop y.1 b) (subst AreBytes whole h) }))

  number_seam : (n : ℕ) (prefix tail : List ℕ) → IsPacked n prefix → number_at (prefix ++ tail) ≡ Some (n, tail)
  unfolding number_at
  number_seam n prefix tail packed = rw (known.again n prefix tail packed, drop-append_seam prefix tail) refl

  pub number_again : (n : ℕ) (parts : List Part) (tail b : List ℕ) → (f : AreParts (number n ∷ parts) tail b) → number_at b ≡ Some (n, f.1)
  number_again n parts tail b f = rw f.2 (number_seam n f.0 f.1 f.3)

  -- no number is empty
  pub number_first : (n : ℕ) (parts : List Part) (tail b : List ℕ) → (f : AreParts (number n ∷ parts) tail b) → (c : ℕ) × (d : List ℕ) × (b ≡ c ∷ d) × (number_at (c ∷ d) ≡ Some (n, f.1))
  unfolding number_at unsigned_at
  number_first n parts tail [] f = absurd (let e = number_again n parts tail [] f in cc)
  number_first n parts tail (c ∷ d) f = (c, d, refl, number_again n parts tail (c ∷ d) f)

  pub number_then : {A : Type 0} {parts : A → List Part} {Good : A → Type 0} {v : A} {ps : List Part} {k : ℕ × List ℕ → Option A} {b : List ℕ} → AreBytes b → option_and_then k (number_at b) ≡ Some v
      → ((x : ℕ × List ℕ) → AreBytes x.1 → k x ≡ Some v → Ends parts Good v (ps ++ number x.0 ∷ []) x.1) → Ends parts Good v ps b
  number_then {v = v} {k = k} {b = b} h e more =
      option_and_then_some k (number_at b) v e (λ x read later. let first = number_found b x h read in part_then first (more x first.bytes_of_tail later))

  pub text_found : (b : List ℕ) (x : List ℕ × List ℕ) → AreBytes b → text_at b ≡ Some x → Begins (text x.0) x.1 b
  unfolding text_at
  text_found b x h e =
      option_and_then_some (λ y. text_in y.0 y.1) (number_at b) x e
      (λ y read. cond_both (nat_lt (length y.1) y.0) None _ (λ o. o ≡ Some x → Begins (text x.0) x.1 b)
      (λ short e. cc)
      (λ long. cond_both (is_utf8 (take y.0 y.1)) (Some (take y.0 y.1, drop y.0 y.1)) None (λ o. o ≡ Some x → Begins (text x.0) x.1 b)
      (λ utf8 e.
      let within : y.0 ≤ length y.1 = grind (arith, nat_tests, long) in
      let t = take y.0 y.1 in
      let begins = number_found b y h read in
      let whole : y.1 ≡ t ++ drop y.0 y.1 = sym (take-append-drop y.0 y.1) in
      let same : (t, drop y.0 y.1) ≡ x = cc in
      subst (λ (z : List ℕ × List ℕ). Begins (text z.0) z.1 b) same
      (record {
        head = begins.head ++ t;
        split = begins.split ∙ ap (λ (s : List ℕ). begins.head ++ s) whole ∙ sym (append_assoc begins.head t (drop y.0 y.1));
        is = (IsUtf8-from_is_utf8 t utf8, (begins.head, subst (λ (m : ℕ). IsPacked m begins.head) (sym (length-take-le y.0 y.1 within)) begins.is, refl));
        bytes_of_tail = bytes_tail t (drop y.0 y.1) (subst AreBytes whole begins.bytes_of_tail);
      }))
      (λ bad e. cc)))

  pub text_again : (t : List ℕ) (parts : List Part) (tail b : List ℕ) → (f : AreParts (text t ∷ parts) tail b) → text_at b ≡ Some (t, f.1)
  unfolding text_at
  text_again t parts tail b f =
      let prefix = f.3.1.0 in
      let e : b ≡ prefix ++ (t ++ f.1) = f.2 ∙ ap (λ (x : List ℕ). x ++ f.1) f.3.1.2 ∙ append_assoc prefix t f.1 in
      let long : nat_lt (length (t ++ f.1)) (length t) ≡ false = grind (arith, nat_tests, length-append t f.1) in
      rw (e, number_seam (length t) prefix (t ++ f.1) f.3.1.1, long, take-append_seam t f.1, drop-append_seam t f.1, is_utf8-from_IsUtf8 t f.3.0) refl

  -- no text is without its length
  pub text_first : (t : List ℕ) (parts : List Part) (tail b : List ℕ) → (f : AreParts (text t ∷ parts) tail b) → (c : ℕ) × (d : List ℕ) × (b ≡ c ∷ d) × (text_at (c ∷ d) ≡ Some (t, f.1))
  unfolding text_at number_at unsigned_at
  text_first t parts tail [] f = absurd (let e = text_again t parts tail [] f in cc)
  text_first t parts tail (c ∷ d) f = (c, d, refl, text_again t parts tail (c ∷ d) f)

  pub text_then : {A : Type 0} {parts : A → List Part} {Good : A → Type 0} {v : A} {ps : List Part} {k : List ℕ × List ℕ → Option A} {b : List ℕ} → AreBytes b → option_and_then k (text_at b) ≡ Some v
      → ((x : List ℕ × List ℕ) → AreBytes x.1 → k x ≡ Some v → Ends parts Good v (ps ++ text x.0 ∷ []) x.1) → Ends parts Good v ps b
  text_then {v = v} {k = k} {b = b} h e more =
      option_and_then_some k (text_at b) v e (λ x read later. let first = text_found b x h read in part_then first (more x first.bytes_of_tail later))
