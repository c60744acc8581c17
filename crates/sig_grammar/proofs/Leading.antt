-- Modifiers, and what else may precede a type.
use Rattle.sig_grammar.proofs.Prelude.{◌≡◌, ℕ, zero, suc, ◌<◌, ◌≤◌, Bool, true, false, cond, eqb, not, ◌&&◌, Option, Some, None, List, [], ◌∷◌, length, refl, ap, subst, arith, IfSome, length-append, option_map, eqb-true, Token, Modifier, Prefix, Mod, Pinned, Part, byte, list_parts, modifier_parts, prefix_parts, Reader, Optional, items_then, leading_within, leading_at, index_at, modifier_after, modifier_at, prefix_of, prefix_at, both, IfSome-bind, IfSome-map, IfSome-cond}
use Rattle.sig_grammar.proofs.Readers.{IsBytes, Head, Head-append, Head-split, Takes, Reads, both_parts, BothGood, pair_reads, NumbersAreRead, Any, index_parts, index_reads}

-- the first byte passes the test
abbrev pub begins : (ℕ → Bool) → List ℕ → Bool
begins p [] = false
begins p (c ∷ b) = p c

abbrev pub heads : (ℕ → Bool) → List Part → Bool
heads p (byte c ∷ ps) = p c
heads p _ = false

-- parts take no more than the bytes that they are read from, and a byte takes one of them
head_short : (ps : List Part) (b remainder : List ℕ) → Head ps b remainder → length remainder ≤ length b
head_short [] b remainder e = omega (arith, ap length e)
head_short (p ∷ ps) b remainder f = omega (arith, ap length f.2, length-append f.0 f.1, head_short ps f.1 remainder f.4)

head_shorter : (ps : List Part) (b remainder : List ℕ) → heads (λ c. true) ps ≡ true → Head ps b remainder → length remainder < length b
head_shorter (byte c ∷ ps) b remainder h f = omega (arith, ap length f.2, ap length f.3, length-append f.0 f.1, head_short ps f.1 remainder f.4)
head_shorter _ b remainder h f = absurd cc

pub begins-heads : (p : ℕ → Bool) (ps : List Part) (b remainder : List ℕ) → heads p ps ≡ true → Head ps b remainder → begins p b ≡ true
begins-heads p (byte c ∷ ps) b remainder h f = rw (f.2, f.3) h
begins-heads p _ b remainder h f = absurd cc

-- an item was read from b, or nothing was
abbrev pub TakesItem : {A : Type 0} → (A → List Part) → List ℕ → Option A × List ℕ → Type 0
TakesItem parts b (None, c) = IsBytes c × (b ≡ c)
TakesItem parts b (Some x, c) = Takes parts (λ x. Any x) b (x, c)

pub record Leads {A : Type 0} (r : Optional A) (parts : A → List Part) (stops : ℕ → Bool) : Type 0 where
  pub found : (b : List ℕ) → IsBytes b → IfSome (r b) (TakesItem parts b)
  pub only : (b remainder : List ℕ) (x : A) → Head (parts x) b remainder → r b ≡ Some (Some x, remainder)
  pub stop : (b : List ℕ) → begins stops b ≡ true → r b ≡ Some (None, b)
  pub starts : (x : A) → heads (λ c. true) (parts x) ≡ true

module _ {A : Type 0} {r : Optional A} {parts : A → List Part} {stops : ℕ → Bool} (leads : Leads r parts stops) where
  abbrev TakesAll : List ℕ → List A × List ℕ → Type 0
  TakesAll b x = Takes (list_parts parts) (λ xs. Any xs) b x

  within_found : (k : ℕ) (b : List ℕ) → IsBytes b → IfSome (leading_within r k b) (TakesAll b)
  unfolding leading_within
  within_found zero b h = record { good = tt; bytes = h; head = refl }
  within_found (suc k) b h =
      IfSome-bind (TakesItem parts b) (TakesAll b) (items_then (leading_within r k)) (r b) (leads.found b h) (of_item b (leading_within r k) (within_found k))
    where
      of_item : (b : List ℕ) (more : Reader (List A)) → ((c : List ℕ) → IsBytes c → IfSome (more c) (TakesAll c)) → (p : Option A × List ℕ) → TakesItem parts b p → IfSome (items_then more p) (TakesAll b)
      of_item b more each (None, c) t = record { good = tt; bytes = t.0; head = t.1 }
      of_item b more each (Some x, c) t =
          IfSome-map (TakesAll c) (TakesAll b) (λ y. (x ∷ y.0, y.1)) (more c) (each c t.bytes)
          (λ y u. record { good = tt; bytes = u.bytes; head = Head-append (parts x) (list_parts parts y.0) b c y.1 t.head u.head })

  within_only : (xs : List A) (k : ℕ) (b remainder : List ℕ) → length xs ≤ k → begins stops remainder ≡ true → Head (list_parts parts xs) b remainder → leading_within r k b ≡ Some (xs, remainder)
  unfolding leading_within
  within_only [] zero b remainder le stop f = rw f refl
  within_only [] (suc k) b remainder le stop f = let s = leads.stop remainder stop in rw (f, s) refl
  within_only (x ∷ xs) zero b remainder le stop f = absurd (omega arith)
  within_only (x ∷ xs) (suc k) b remainder le stop f =
      let s = Head-split (parts x) (list_parts parts xs) b remainder f in
      let e = leads.only b s.0 x s.1 in
      let g = within_only xs k s.0 remainder (omega arith) stop s.2 in
      rw (e, g) refl

  all_length : (xs : List A) (b remainder : List ℕ) → Head (list_parts parts xs) b remainder → length xs ≤ length b
  all_length [] b remainder f = omega arith
  all_length (x ∷ xs) b remainder f =
      let s = Head-split (parts x) (list_parts parts xs) b remainder f in
      omega (arith, all_length xs s.0 remainder s.2, head_shorter (parts x) b s.0 (leads.starts x) s.1)

  pub leading_found : (b : List ℕ) → IsBytes b → IfSome (leading_at r b) (TakesAll b)
  unfolding leading_at
  leading_found b h = within_found (length b) b h

  pub leading_only : (xs : List A) (b remainder : List ℕ) → begins stops remainder ≡ true → Head (list_parts parts xs) b remainder → leading_at r b ≡ Some (xs, remainder)
  unfolding leading_at
  leading_only xs b remainder stop f = within_only xs (length b) b remainder (all_length xs b remainder f) stop f

  -- ---- items before a value that does not start like an item
  module _ {B : Type 0} {q : Reader B} {more : B → List Part} {Good : B → Type 0} (second : Reads q more Good) (free : (v : B) → Good v → heads stops (more v) ≡ true) where
    pub led_reads : Reads (both (leading_at r) q) (both_parts (list_parts parts) more) (BothGood (λ xs. Any xs) Good)
    led_reads =
        pair_reads _ _ _ _ _ _ leading_found
        (λ u v b mid remainder any good f g. leading_only u b mid (begins-heads stops (more v) mid remainder (free v good) g) f) second

-- ---- modifiers

-- every byte except this one
abbrev pub no : ℕ → ℕ → Bool
no n c = not (eqb c n)

-- no modifier starts with this byte
abbrev pub no_modifier : ℕ → Bool
no_modifier c = no 0x1F c && no 0x20 c

abbrev TakesModifier : List ℕ → Option Modifier × List ℕ → Type 0
TakesModifier b p = TakesItem modifier_parts b p

abbrev modifier_code : Bool → ℕ
modifier_code b = cond b 0x1F 0x20

after_found : NumbersAreRead → (required : Bool) (c : ℕ) (b : List ℕ) → c ≡ modifier_code required → IsBytes b → IfSome (modifier_after required b) (TakesModifier (c ∷ b))
after_found known required c b e h =
    IfSome-map (Takes index_parts (λ t. Any t) b) (TakesModifier (c ∷ b)) (λ x. (Some (record { required = required; of = x.0 }), x.1)) (index_at b) ((index_reads known).found b h)
    (λ x t. record {
      good = tt;
      bytes = t.bytes;
      head = (c ∷ [], b, refl, ap (λ (n : ℕ). n ∷ []) e, t.head);
    })

modifier_again : (required : Bool) (of : Token) (b mid : List ℕ) → index_at b ≡ Some (of, mid) → modifier_at (modifier_code required ∷ b) ≡ Some (Some (record { required = required; of = of }), mid)
unfolding modifier_at
modifier_again true of b mid e = rw e refl
modifier_again false of b mid e = rw e refl

neither : {X : Type 0} (p q : Bool) (x y z : X) → (not p && not q) ≡ true → cond p x (cond q y z) ≡ z
neither true q x y z h = absurd cc
neither false true x y z h = absurd cc
neither false false x y z h = refl

modifier_stop : (b : List ℕ) → begins no_modifier b ≡ true → modifier_at b ≡ Some (None, b)
unfolding modifier_at
modifier_stop [] h = absurd cc
modifier_stop (c ∷ b) h = neither (eqb c 0x1F) (eqb c 0x20) _ _ _ h

modifier_found : NumbersAreRead → (b : List ℕ) → IsBytes b → IfSome (modifier_at b) (TakesModifier b)
unfolding modifier_at
modifier_found known [] h = (h, refl)
modifier_found known (c ∷ b) h =
    IfSome-cond (TakesModifier (c ∷ b)) (eqb c 0x1F) _ _ (λ e. after_found known true c b (eqb-true c 0x1F e) (λ k. h (suc k)))
    (λ e. IfSome-cond (TakesModifier (c ∷ b)) (eqb c 0x20) _ _ (λ e. after_found known false c b (eqb-true c 0x20 e) (λ k. h (suc k))) (λ e. (h, refl)))

modifier_head : (m : Modifier) (b remainder : List ℕ) → Head (modifier_parts m) b remainder → (tail : List ℕ) × (b ≡ modifier_code m.required ∷ tail) × Head (index_parts m.of) tail remainder
modifier_head m b remainder f = (f.1, rw (f.2, f.3) refl, f.4)

pub modifier_leads : NumbersAreRead → Leads modifier_at modifier_parts no_modifier
modifier_leads known = record {
  found = (modifier_found known);
  only = λ b remainder m f.
      let s = modifier_head m b remainder f in
      let e = (index_reads known).only s.0 remainder m.of tt s.2 in
      rw (s.1) (modifier_again m.required m.of s.0 remainder e);
  stop = modifier_stop;
  starts = λ m. refl;
}

-- ---- modifiers with PINNED

abbrev pub no_prefix : ℕ → Bool
no_prefix c = no 0x45 c && no_modifier c

abbrev TakesPrefix : List ℕ → Option Prefix × List ℕ → Type 0
TakesPrefix b p = TakesItem prefix_parts b p

prefix_of_found : (b : List ℕ) (p : Option Modifier × List ℕ) → TakesModifier b p → TakesPrefix b (prefix_of p)
prefix_of_found b (None, c) t = t
prefix_of_found b (Some m, c) t = record { good = tt; bytes = t.bytes; head = t.head }

prefix_found : NumbersAreRead → (b : List ℕ) → IsBytes b → IfSome (prefix_at b) (TakesPrefix b)
unfolding prefix_at
prefix_found known [] h = (h, refl)
prefix_found known (c ∷ b) h =
    IfSome-cond (TakesPrefix (c ∷ b)) (eqb c 0x45) _ _
    (λ e. record { good = tt; bytes = λ k. h (suc k); head = (c ∷ [], b, refl, ap (λ (n : ℕ). n ∷ []) (eqb-true c 0x45 e), refl) })
    (λ e. IfSome-map (TakesModifier (c ∷ b)) (TakesPrefix (c ∷ b)) prefix_of (modifier_at (c ∷ b)) ((modifier_leads known).found (c ∷ b) h) (prefix_of_found (c ∷ b)))

not_pinned : (m : Modifier) (remainder : List ℕ) (required : Bool) (tail : List ℕ) → modifier_at (modifier_code required ∷ tail) ≡ Some (Some m, remainder) → prefix_at (modifier_code required ∷ tail) ≡ Some (Some (Mod m), remainder)
unfolding prefix_at
not_pinned m remainder true tail e = rw e refl
not_pinned m remainder false tail e = rw e refl

prefix_only : NumbersAreRead → (b remainder : List ℕ) (x : Prefix) → Head (prefix_parts x) b remainder → prefix_at b ≡ Some (Some x, remainder)
unfolding prefix_at
prefix_only known b remainder Pinned f = rw (f.2, f.3, f.4) refl
prefix_only known b remainder (Mod m) f =
    let s = modifier_head m b remainder f in
    let e = (modifier_leads known).only b remainder m f in
    rw (s.1) (not_pinned m remainder m.required s.0 (subst (λ (t : List ℕ). modifier_at t ≡ Some (Some m, remainder)) s.1 e))

stop_at_test : (p : Bool) (c : ℕ) (b : List ℕ) (x : Option (Option Prefix × List ℕ)) → (not p && no_modifier c) ≡ true → cond p x (option_map prefix_of (modifier_at (c ∷ b))) ≡ Some (None, c ∷ b)
stop_at_test true c b x h = absurd cc
stop_at_test false c b x h = let e = modifier_stop (c ∷ b) h in rw e refl

prefix_stop : (b : List ℕ) → begins no_prefix b ≡ true → prefix_at b ≡ Some (None, b)
unfolding prefix_at
prefix_stop [] h = absurd cc
prefix_stop (c ∷ b) h = stop_at_test (eqb c 0x45) c b _ h

prefix_starts : (x : Prefix) → heads (λ c. true) (prefix_parts x) ≡ true
prefix_starts Pinned = refl
prefix_starts (Mod m) = refl

pub prefix_leads : NumbersAreRead → Leads prefix_at prefix_parts no_prefix
prefix_leads known = record { found = (prefix_found known); only = (prefix_only known); stop = prefix_stop; starts = prefix_starts }
