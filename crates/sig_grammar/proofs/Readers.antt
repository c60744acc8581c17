-- What each reader must satisfy: it reads what is encoded, and what it reads is encoded so.
use Rattle.sig_grammar.proofs.Prelude.{◌≡◌, ℕ, zero, suc, ◌<◌, Bool, true, false, cond, Option, Some, None, List, [], ◌∷◌, ◌++◌, get_or, ◌^◌, refl, sym, ap, subst, IfSome, ◌≤◌, length, take, drop, ◌∙◌, ltb, ⊤, option_and_then, ℤ, option_map, Part, byte, EncodesPart, EncodesParts, number, signed, index, Reader, change, split, number_at, signed_at, token_of, index_at, both, many_at, counted_at, counted_within, IfSome-bind, IfSome-map, IsPacked, IsPackedSigned, Token, AllByRecursion, ltb-false, le-ltb, list_parts, headed_at}
use Rattle.std.proofs.lemmas.List.{take-append-drop}
use Rattle.std.proofs.Math.Seq.{drop-append_seam}
use Rattle.packed.specs.Prefix as leading
use Rattle.sig_grammar.proofs.Indexes.{Names, token_found, token_again}

abbrev pub IsBytes : List ℕ → Type 0
IsBytes b = (k : ℕ) → get_or b k 0 < 2 ^ 8

pub IsBytes-tail : (a b : List ℕ) → IsBytes (a ++ b) → IsBytes b
IsBytes-tail [] b h = h
IsBytes-tail (x ∷ a) b h = IsBytes-tail a b (λ k. h (suc k))

-- b starts with encodings of the parts, and rest is the remainder
abbrev pub Head : List Part → List ℕ → List ℕ → Type 0
Head [] b remainder = b ≡ remainder
Head (p ∷ ps) b remainder = (x mid : List ℕ) × (b ≡ x ++ mid) × EncodesPart p x × Head ps mid remainder

pub Head-append : (ps qs : List Part) (b mid remainder : List ℕ) → Head ps b mid → Head qs mid remainder → Head (ps ++ qs) b remainder
Head-append [] qs b mid remainder e h = rw e h
Head-append (p ∷ ps) qs b mid remainder f h = (f.0, f.1, f.2, f.3, Head-append ps qs f.1 mid remainder f.4 h)

pub Head-split : (ps qs : List Part) (b remainder : List ℕ) → Head (ps ++ qs) b remainder → (mid : List ℕ) × Head ps b mid × Head qs mid remainder
Head-split [] qs b remainder h = (b, refl, h)
Head-split (p ∷ ps) qs b remainder f =
    let s = Head-split ps qs f.1 remainder f.4 in
    (s.0, (f.0, f.1, f.2, f.3, s.1), s.2)

pub Head-whole : (ps : List Part) (b : List ℕ) → Head ps b [] → EncodesParts ps b
Head-whole [] b e = e
Head-whole (p ∷ ps) b f = (f.0, f.1, f.2, f.3, Head-whole ps f.1 f.4)

pub Head-from_whole : (ps : List Part) (b : List ℕ) → EncodesParts ps b → Head ps b []
Head-from_whole [] b e = e
Head-from_whole (p ∷ ps) b f = (f.0, f.1, f.2, f.3, Head-from_whole ps f.1 f.4)

-- x, a value and the bytes after it, is a correct reading of b
pub record Takes {A : Type 0} (parts : A → List Part) (Good : A → Type 0) (b : List ℕ) (x : A × List ℕ) : Type 0 where
  pub good : Good x.0
  pub bytes : IsBytes x.1
  pub head : Head (parts x.0) b x.1

pub record Reads {A : Type 0} (r : Reader A) (parts : A → List Part) (Good : A → Type 0) : Type 0 where
  pub found : (b : List ℕ) → IsBytes b → IfSome (r b) (Takes parts Good b)
  pub only : (b remainder : List ℕ) (v : A) → Good v → Head (parts v) b remainder → r b ≡ Some (v, remainder)

-- the first byte, and the bytes after it
pub head_byte : (c : ℕ) (ps : List Part) (b remainder : List ℕ) → Head (byte c ∷ ps) b remainder → (tail : List ℕ) × (b ≡ c ∷ tail) × Head ps tail remainder
head_byte c ps b remainder f = (f.1, rw (f.2, f.3) refl, f.4)

-- a byte before bytes that were read
pub behind_byte : (c n : ℕ) (ps : List Part) (b remainder : List ℕ) → c ≡ n → Head ps b remainder → Head (byte n ∷ ps) (c ∷ b) remainder
behind_byte c n ps b remainder e f = (c ∷ [], b, refl, ap (λ (m : ℕ). m ∷ []) e, f)

-- a weaker fact about the value in an option
pub weaken : {X : Type 0} (P Q : X → Type 0) (o : Option X) → IfSome o P → ((x : X) → P x → Q x) → IfSome o Q
weaken P Q None h k = tt
weaken P Q (Some x) h k = k x h

module _ {A B : Type 0} {r : Reader A} {parts : A → List Part} {Good : A → Type 0} {more : B → List Part} {Fine : B → Type 0} (f : A → B) (reads : Reads r parts Good)
    (good : (u : A) → Good u → Fine (f u)) (same : (u : A) → more (f u) ≡ parts u) (back : (v : B) → Fine v → (u : A) × Good u × (f u ≡ v)) where
  pub change_reads : Reads (change f r) more Fine
  change_reads = record {
    found = λ b h.
        IfSome-map (Takes parts Good b) (Takes more Fine b) (λ x. (f x.0, x.1)) (r b) (reads.found b h)
        (λ x t. record {
          good = good x.0 t.good;
          bytes = t.bytes;
          head = subst (λ (ps : List Part). Head ps b x.1) (sym (same x.0)) t.head;
        });
    only = λ b remainder v fine head.
        let u = back v fine in
        let there = subst (λ (ps : List Part). Head ps b remainder) (same u.0) (subst (λ (w : B). Head (more w) b remainder) (sym u.2) head) in
        let e = reads.only b remainder u.0 u.1 there in
        rw e (ap (λ (w : B). Some (w, remainder)) u.2);
  }

-- a value, and then what a reader reads that depends on it
module _ {A B : Type 0} {r : Reader A} {parts : A → List Part} {Good : A → Type 0} {Whole : B → Type 0} (q : A → Reader B) (key : B → A)
    (more : B → List Part) (Fine : A → B → Type 0) (first : Reads r parts Good) (second : (x : A) → Good x → Reads (q x) more (Fine x))
    (up : (x : A) (y : B) → Good x → Fine x y → Whole y × (key y ≡ x)) (down : (y : B) → Whole y → Good (key y) × Fine (key y) y) where
  pub then_reads : Reads (λ b. option_and_then (λ x. q x.0 x.1) (r b)) (λ y. parts (key y) ++ more y) Whole
  then_reads = record {
    found = λ b h.
        IfSome-bind (Takes parts Good b) (Takes (λ y. parts (key y) ++ more y) Whole b) (λ x. q x.0 x.1) (r b) (first.found b h)
        (λ x t.
        weaken (Takes more (Fine x.0) x.1) (Takes (λ y. parts (key y) ++ more y) Whole b) (q x.0 x.1) ((second x.0 t.good).found x.1 t.bytes)
        (λ y u.
        let whole = up x.0 y.0 t.good u.good in
        record { good = whole.0; bytes = u.bytes; head = Head-append (parts (key y.0)) (more y.0) b x.1 y.1 (rw (whole.1) t.head) u.head }));
    only = λ b remainder v whole f.
        let g = down v whole in
        let s = Head-split (parts (key v)) (more v) b remainder f in
        let e = first.only b s.0 (key v) g.0 s.1 in
        rw e ((second (key v) g.0).only s.0 remainder v g.1 s.2);
  }

-- nothing, if the test holds
module _ {A : Type 0} {r : Reader A} {parts : A → List Part} {Good : A → Type 0} (reads : Reads r parts Good) where
  pub unless_reads : (p : Bool) → Reads (λ b. cond p None (r b)) parts (λ v. Good v × (p ≡ false))
  unless_reads true = record { found = λ b h. tt; only = λ b remainder v good f. absurd (let e = good.1 in cc) }
  unless_reads false = record {
    found = λ b h.
        weaken (Takes parts Good b) (Takes parts (λ v. Good v × (false ≡ false)) b) (r b) (reads.found b h) (λ x t. record { good = (t.good, refl); bytes = t.bytes; head = t.head });
    only = λ b remainder v good f. reads.only b remainder v good.0 f;
  }

-- ---- packed numbers and type indexes are read as they are encoded

abbrev pub Any : {A : Type 0} → A → Type 0
Any x = ⊤

abbrev pub number_parts : ℕ → List Part
number_parts n = number n ∷ []

abbrev pub signed_parts : ℤ → List Part
signed_parts z = signed z ∷ []

-- the first bytes encode the value, and the reader returns their number
abbrev pub IsAtHead : {A : Type 0} → (A → List ℕ → Type 0) → List ℕ → A × ℕ → Type 0
IsAtHead encodes b read = (read.1 ≤ length b) × encodes read.0 (take read.1 b)

-- numbers at the start are read as they are encoded
pub record NumbersAreRead : Type 0 where
  pub unsigned_found : (b : List ℕ) → ((k : ℕ) → get_or b k 0 < 2 ^ 8) → IfSome (leading.unsigned_at b) (IsAtHead IsPacked b)
  pub unsigned_again : (n : ℕ) (s tail : List ℕ) → IsPacked n s → leading.unsigned_at (s ++ tail) ≡ Some (n, length s)
  pub signed_found : (b : List ℕ) → ((k : ℕ) → get_or b k 0 < 2 ^ 8) → IfSome (leading.signed_at b) (IsAtHead IsPackedSigned b)
  pub signed_again : (z : ℤ) (s tail : List ℕ) → IsPackedSigned z s → leading.signed_at (s ++ tail) ≡ Some (z, length s)

split_found : {A : Type 0} (encodes : A → List ℕ → Type 0) (part : A → Part) → ((x : A) (s : List ℕ) → encodes x s → EncodesPart (part x) s) → (b : List ℕ) (o : Option (A × ℕ)) → IsBytes b → IfSome o (IsAtHead encodes b) → IfSome (split b o) (Takes (λ x. part x ∷ []) (λ x. Any x) b)
split_found encodes part same b o h found =
    IfSome-map (IsAtHead encodes b) (Takes (λ x. part x ∷ []) (λ x. Any x) b) (λ x. (x.0, drop x.1 b)) o found
    (λ x at. record {
      good = tt;
      bytes = IsBytes-tail (take x.1 b) (drop x.1 b) (subst IsBytes (sym (take-append-drop x.1 b)) h);
      head = (take x.1 b, drop x.1 b, sym (take-append-drop x.1 b), same x.0 (take x.1 b) at.1, refl);
    })

split_again : {A : Type 0} (x : A) (s mid tail b : List ℕ) (o : Option (A × ℕ)) → b ≡ s ++ mid → mid ≡ tail → o ≡ Some (x, length s) → split b o ≡ Some (x, tail)
split_again x s mid tail b o e same read = rw (read, e, drop-append_seam s mid, same) refl

pub number_reads : NumbersAreRead → Reads number_at number_parts (λ n. Any n)
unfolding number_at
number_reads known = record {
  found = λ b h. split_found IsPacked (λ n. number n) (λ n s is. is) b (leading.unsigned_at b) h (known.unsigned_found b h);
  only = λ b tail n _ f. split_again n f.0 f.1 tail b (leading.unsigned_at b) f.2 f.4 (ap (λ (t : List ℕ). leading.unsigned_at t) f.2 ∙ known.unsigned_again n f.0 f.1 f.3);
}

pub signed_reads : NumbersAreRead → Reads signed_at signed_parts (λ z. Any z)
unfolding signed_at
signed_reads known = record {
  found = λ b h. split_found IsPackedSigned (λ z. signed z) (λ z s is. is) b (leading.signed_at b) h (known.signed_found b h);
  only = λ b tail z _ f. split_again z f.0 f.1 tail b (leading.signed_at b) f.2 f.4 (ap (λ (t : List ℕ). leading.signed_at t) f.2 ∙ known.signed_again z f.0 f.1 f.3);
}

-- ---- type indexes

abbrev pub index_parts : Token → List Part
index_parts t = index t ∷ []

pub index_reads : NumbersAreRead → Reads index_at index_parts (λ t. Any t)
unfolding index_at
index_reads known = record {
  found = λ b h.
      IfSome-bind (Takes number_parts (λ n. Any n) b) (Takes index_parts (λ t. Any t) b) (λ x. option_map (λ t. (t, x.1)) (token_of x.0)) (number_at b) ((number_reads known).found b h)
      (λ x took.
      IfSome-map (Names x.0) (Takes index_parts (λ t. Any t) b) (λ t. (t, x.1)) (token_of x.0) (token_found x.0)
      (λ t is. record {
        good = tt;
        bytes = took.bytes;
        head = (took.head.0, took.head.1, took.head.2, record { number = x.0; coded = is; packed = took.head.3 }, took.head.4);
      }));
  only = λ b tail t _ f.
      let as_number = (number_reads known).only b tail f.3.number tt (f.0, f.1, f.2, f.3.packed, f.4) in
      rw (as_number, token_again f.3.number t f.3.coded) refl;
}

-- ---- readers one after another, and lists after their count

abbrev pub both_parts : {A B : Type 0} → (A → List Part) → (B → List Part) → A × B → List Part
both_parts parts more x = parts x.0 ++ more x.1

abbrev pub BothGood : {A B : Type 0} → (A → Type 0) → (B → Type 0) → A × B → Type 0
BothGood Good Fine x = Good x.0 × Fine x.1

-- the first is read where the second follows it
module _ {A B : Type 0} (r : Reader A) (q : Reader B) (parts : A → List Part) (more : B → List Part) (Good : A → Type 0) (Fine : B → Type 0)
    (found : (b : List ℕ) → IsBytes b → IfSome (r b) (Takes parts Good b))
    (only : (u : A) (v : B) (b mid tail : List ℕ) → Good u → Fine v → Head (parts u) b mid → Head (more v) mid tail → r b ≡ Some (u, mid)) (second : Reads q more Fine) where
  pub pair_reads : Reads (both r q) (both_parts parts more) (BothGood Good Fine)
  unfolding both
  pair_reads = record {
    found = λ b h.
        IfSome-bind (Takes parts Good b) (Takes (both_parts parts more) (BothGood Good Fine) b) (λ x. option_map (λ y. ((x.0, y.0), y.1)) (q x.1)) (r b) (found b h)
        (λ x t.
        IfSome-map (Takes more Fine x.1) (Takes (both_parts parts more) (BothGood Good Fine) b) (λ y. ((x.0, y.0), y.1)) (q x.1) (second.found x.1 t.bytes)
        (λ y u. record { good = (t.good, u.good); bytes = u.bytes; head = Head-append (parts x.0) (more y.0) b x.1 y.1 t.head u.head }));
    only = λ b tail v good f.
        let s = Head-split (parts v.0) (more v.1) b tail f in
        let e = only v.0 v.1 b s.0 tail good.0 good.1 s.1 s.2 in
        let g = second.only s.0 tail v.1 good.1 s.2 in
        rw (e, g) refl;
  }

pub both_reads : {A B : Type 0} {r : Reader A} {q : Reader B} {parts : A → List Part} {more : B → List Part} {Good : A → Type 0} {Fine : B → Type 0}
    → Reads r parts Good → Reads q more Fine → Reads (both r q) (both_parts parts more) (BothGood Good Fine)
both_reads first second = pair_reads _ _ _ _ _ _ first.found (λ u v b mid tail good fine f g. first.only b mid u good f) second

-- ---- lists

-- n good values
abbrev pub Many : {A : Type 0} → (A → Type 0) → ℕ → List A → Type 0
Many Good n xs = AllByRecursion Good xs × (length xs ≡ n)

abbrev pub counted_parts : {A : Type 0} → (A → List Part) → List A → List Part
counted_parts parts xs = number (length xs) ∷ list_parts parts xs

abbrev pub AtMost : {A : Type 0} → ℕ → List A → Type 0
AtMost most xs = length xs ≤ most

module _ {A : Type 0} {r : Reader A} {parts : A → List Part} {Good : A → Type 0} (each : Reads r parts Good) where
  many_found : (n : ℕ) (b : List ℕ) → IsBytes b → IfSome (many_at r n b) (Takes (list_parts parts) (Many Good n) b)
  unfolding many_at
  many_found zero b h = record { good = (tt, refl); bytes = h; head = refl }
  many_found (suc n) b h =
      IfSome-bind (Takes parts Good b) (Takes (list_parts parts) (Many Good (suc n)) b) (λ x. option_map (λ y. (x.0 ∷ y.0, y.1)) (many_at r n x.1)) (r b) (each.found b h)
      (λ x t.
      IfSome-map (Takes (list_parts parts) (Many Good n) x.1) (Takes (list_parts parts) (Many Good (suc n)) b) (λ y. (x.0 ∷ y.0, y.1)) (many_at r n x.1) (many_found n x.1 t.bytes)
      (λ y u. record {
        good = ((t.good, u.good.0), ap suc u.good.1);
        bytes = u.bytes;
        head = Head-append (parts x.0) (list_parts parts y.0) b x.1 y.1 t.head u.head;
      }))

  many_only : (xs : List A) (b tail : List ℕ) → AllByRecursion Good xs → Head (list_parts parts xs) b tail → many_at r (length xs) b ≡ Some (xs, tail)
  unfolding many_at
  many_only [] b tail good f = rw f refl
  many_only (x ∷ xs) b tail good f =
      let s = Head-split (parts x) (list_parts parts xs) b tail f in
      let e = each.only b s.0 x good.0 s.1 in
      let g = many_only xs s.0 tail good.1 s.2 in
      rw (e, g) refl

  many_reads : (n : ℕ) → Reads (many_at r n) (list_parts parts) (Many Good n)
  many_reads n = record {
    found = many_found n;
    only = λ b tail xs good f. subst (λ (k : ℕ). many_at r k b ≡ Some (xs, tail)) good.1 (many_only xs b tail good.0 f);
  }

  module _ (known : NumbersAreRead) where
    pub counted_reads : Reads (counted_at r) (counted_parts parts) (AllByRecursion Good)
    unfolding counted_at
    counted_reads =
        then_reads (many_at r) length (list_parts parts) (Many Good) (number_reads known) (λ n any. many_reads n) (λ n xs any good. good) (λ xs good. (tt, (good, refl)))

    -- a count n, one value, and n further values
    pub headed_reads : Reads (headed_at r) (λ x. number (length x.1) ∷ both_parts parts (list_parts parts) x) (BothGood Good (AllByRecursion Good))
    unfolding headed_at
    headed_reads =
        then_reads (λ n. both r (many_at r n)) (λ x. length x.1) (both_parts parts (list_parts parts)) (λ n. BothGood Good (Many Good n)) (number_reads known)
        (λ n any. both_reads each (many_reads n)) (λ n x any good. ((good.0, good.1.0), good.1.1)) (λ x good. (tt, (good.0, (good.1, refl))))

all_any : {A : Type 0} (xs : List A) → AllByRecursion (λ (x : A). Any x) xs
all_any [] = tt
all_any (x ∷ xs) = (tt, all_any xs)

pub within_reads : {A : Type 0} {r : Reader A} {parts : A → List Part} → NumbersAreRead → Reads r parts (λ x. Any x) → (most : ℕ) → Reads (counted_within r most) (counted_parts parts) (AtMost most)
unfolding counted_within
within_reads {r = r} {parts = parts} known each most =
    then_reads (λ n b. cond (ltb most n) None (many_at r n b)) length (list_parts parts) (λ n xs. Many (λ x. Any x) n xs × (ltb most n ≡ false)) (number_reads known)
    (λ n any. unless_reads (many_reads each n) (ltb most n)) (λ n xs any good. (let le = ltb-false most n good.1 in rw (good.0.1) le, good.0.1))
    (λ xs good. (tt, ((all_any xs, refl), le-ltb most (length xs) good)))
