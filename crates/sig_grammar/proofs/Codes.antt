-- The first byte of each value, and what is read after it.
use Rattle.sig_grammar.proofs.Prelude.{◌≡◌, ◌≢◌, ◌⊎◌, inl, inr, ℕ, suc, Bool, true, false, cond, eqb, ltb, ◌&&◌, Option, Some, None, List, [], ◌∷◌, refl, sym, ap, ◌∙◌, subst, IfSome, ◌≤◌, ◌++◌, ⊤, eqb-true, eq-eqb, ne_eqb, not-true, Element, Boolean, Char, I1, U1, I2, U2, I4, U4, I8, U8, R4, R8, String, I, U, Object, Core, simple, Content, typed_ref, plain, by_ref, Slot, slot, Typed, typed, Ret, some_ret, void_ret, element_code, Part, byte, core_parts, content_parts, slot_parts, typed_parts, ret_parts, modifiers_parts, Reader, element_of, pick, change, behind, head_is, both, modifiers_at, typed_at, void_or, target_at, content_at, slot_at, ret_at, ret_from, IfSome-map, IfSome-cond, Modifier, IsCoreWithin, IsTypedWithin, IsContentWithin, IsSlotWithin, IsRetWithin}
use Rattle.sig_grammar.proofs.Readers.{IsBytes, Head, Takes, Reads, head_byte, behind_byte, weaken, NumbersAreRead, Any, change_reads, both_parts, BothGood}
use Rattle.sig_grammar.proofs.Leading.{begins, heads, begins-heads, no, no_modifier, no_prefix, modifier_leads, led_reads}

abbrev HasCode : ℕ → Element → Type 0
HasCode c e = c ≡ element_code e

picked : (c n : ℕ) (e : Element) (other : Option Element) → element_code e ≡ n → IfSome other (HasCode c) → IfSome (pick c n e other) (HasCode c)
picked c n e other is h = IfSome-cond (HasCode c) (eqb c n) (Some e) other (λ t. eqb-true c n t ∙ sym is) (λ t. h)

pub element_found : (c : ℕ) → IfSome (element_of c) (HasCode c)
unfolding element_of
element_found c =
    picked c 0x02 Boolean _ refl (picked c 0x03 Char _ refl (picked c 0x04 I1 _ refl (picked c 0x05 U1 _ refl (picked c 0x06 I2 _ refl (picked c 0x07 U2 _ refl (picked c 0x08 I4 _ refl (picked c 0x09 U4 _ refl (picked c 0x0A I8 _ refl (picked c 0x0B U8 _ refl (picked c 0x0C R4 _ refl (picked c 0x0D R8 _ refl (picked c 0x0E String _ refl (picked c 0x18 I _ refl (picked c 0x19 U _ refl (picked c 0x1C Object None refl tt)))))))))))))))

pub element_again : (e : Element) → element_of (element_code e) ≡ Some e
unfolding element_of
element_again Boolean = refl
element_again _ = refl

-- ---- a type starts with none of these bytes: VOID, BYREF, TYPEDBYREF, a modifier, SENTINEL, PINNED

abbrev pub may_start : ℕ → Bool
may_start c = ltb 0x01 c && (ltb c 0x1F && (no 0x10 c && no 0x16 c))

pub other_byte : (n c : ℕ) → c ≢ n → no n c ≡ true
other_byte n c h = let e = ne_eqb c n h in rw e refl

pub no_start : (n c : ℕ) → may_start n ≡ false → may_start c ≡ true → no n c ≡ true
no_start n c h k = other_byte n c (λ e. let same = ap may_start e in absurd cc)

pub start_no_modifier : (c : ℕ) → may_start c ≡ true → no_modifier c ≡ true
start_no_modifier c h = rw (no_start 0x1F c refl h, no_start 0x20 c refl h) refl

pub start_no_prefix : (c : ℕ) → may_start c ≡ true → no_prefix c ≡ true
start_no_prefix c h = rw (no_start 0x45 c refl h, start_no_modifier c h) refl

element_may : (e : Element) → may_start (element_code e) ≡ true
element_may Boolean = refl
element_may _ = refl

module _ (p : ℕ → Bool) (each : (c : ℕ) → may_start c ≡ true → p c ≡ true) where
  pub core_heads : (c : Core) → heads p (core_parts c) ≡ true
  core_heads (simple e) = each (element_code e) (element_may e)
  core_heads _ = each _ refl

  pub content_heads : p 0x16 ≡ true → p 0x10 ≡ true → (v : Content) → heads p (content_parts v) ≡ true
  content_heads r b typed_ref = r
  content_heads r b (plain c) = core_heads c
  content_heads r b (by_ref modifiers c) = b

modifier_no_sentinel : (required : Bool) → no 0x41 (cond required 0x1F 0x20) ≡ true
modifier_no_sentinel true = refl
modifier_no_sentinel false = refl

pub slot_no_sentinel : (s : Slot) → heads (no 0x41) (slot_parts s) ≡ true
slot_no_sentinel (slot [] content) = content_heads (no 0x41) (λ c. no_start 0x41 c refl) refl refl content
slot_no_sentinel (slot (m ∷ ms) content) = modifier_no_sentinel m.required

-- ---- a byte, and what follows it

-- the second reader, if the first byte is another one
pub behind_other : {A : Type 0} (n : ℕ) (r other : Reader A) (b : List ℕ) → begins (no n) b ≡ true → behind n r other b ≡ other b
behind_other n r other [] h = absurd cc
behind_other n r other (c ∷ b) h = let e = not-true (eqb c n) h in rw e refl

pub no_head : (n : ℕ) (b : List ℕ) → begins (no n) b ≡ true → head_is n b ≡ false
no_head n [] h = refl
no_head n (c ∷ b) h = not-true (eqb c n) h

-- nothing
pub unit_reads : Reads {A = ⊤} (λ b. Some (tt {0}, b)) (λ u. []) (λ u. ⊤)
unit_reads = record { found = λ b h. record { good = tt; bytes = h; head = refl }; only = λ b remainder v good f. rw f refl }

-- a form after its byte, or another form
module _ {A V : Type 0} {r : Reader A} {inner : A → List Part} {Inner : A → Type 0} {other : Reader V} {parts : V → List Part} {Fine Good : V → Type 0} (n : ℕ) (f : A → V)
    (reads : Reads r inner Inner) (others : Reads other parts Fine) (same : (u : A) → parts (f u) ≡ byte n ∷ inner u) (good : (u : A) → Inner u → Good (f u)) (fine : (v : V) → Fine v → Good v)
    (which : (v : V) → Good v → ((u : A) × Inner u × (f u ≡ v)) ⊎ (Fine v × (heads (no n) (parts v) ≡ true))) where
  form_found : (b : List ℕ) → IsBytes b → IfSome (behind n (change f r) other b) (Takes parts Good b)
  form_found [] h = tt
  form_found (c ∷ b) h =
      IfSome-cond (Takes parts Good (c ∷ b)) (eqb c n) _ _
      (λ e.
      IfSome-map (Takes inner Inner b) (Takes parts Good (c ∷ b)) (λ x. (f x.0, x.1)) (r b) (reads.found b (λ k. h (suc k)))
      (λ x t. record {
        good = good x.0 t.good;
        bytes = t.bytes;
        head = subst (λ (ps : List Part). Head ps (c ∷ b) x.1) (sym (same x.0)) (behind_byte c n (inner x.0) b x.1 (eqb-true c n e) t.head);
      }))
      (λ e.
      weaken (Takes parts Fine (c ∷ b)) (Takes parts Good (c ∷ b)) (other (c ∷ b)) (others.found (c ∷ b) h)
      (λ x t. record { good = fine x.0 t.good; bytes = t.bytes; head = t.head }))

  at_byte : (u : A) (tail remainder : List ℕ) (v : V) → r tail ≡ Some (u, remainder) → f u ≡ v → behind n (change f r) other (n ∷ tail) ≡ Some (v, remainder)
  at_byte u tail remainder v e k = let same_byte = eq-eqb n n refl in rw (same_byte, e, k) refl

  form_only : (b remainder : List ℕ) (v : V) → Good v → Head (parts v) b remainder → behind n (change f r) other b ≡ Some (v, remainder)
  form_only b remainder v g head = of_which (which v g)
    where
      of_which : ((u : A) × Inner u × (f u ≡ v)) ⊎ (Fine v × (heads (no n) (parts v) ≡ true)) → behind n (change f r) other b ≡ Some (v, remainder)
      of_which (inl u) =
          let there = subst (λ (ps : List Part). Head ps b remainder) (same u.0) (subst (λ (w : V). Head (parts w) b remainder) (sym u.2) head) in
          let s = head_byte n (inner u.0) b remainder there in
          rw (s.1) (at_byte u.0 s.0 remainder v (reads.only s.0 remainder u.0 u.1 s.2) u.2)
      of_which (inr h) = behind_other n (change f r) other b (begins-heads (no n) (parts v) b remainder h.1 head) ∙ others.only b remainder v h.0 head

  pub form_reads : Reads (behind n (change f r) other) parts Good
  form_reads = record { found = form_found; only = form_only }

-- ---- if cores are read as they are encoded, so are types, parameters and results

-- ---- VOID, or something else

abbrev pub void_parts : {A : Type 0} → (A → List Part) → Option A → List Part
void_parts parts None = byte 0x01 ∷ []
void_parts parts (Some x) = parts x

abbrev pub VoidGood : {A : Type 0} → (A → Type 0) → Option A → Type 0
VoidGood Good None = ⊤
VoidGood Good (Some x) = Good x

-- modifiers, and what they qualify
abbrev pub Modified : {A : Type 0} → (A → Type 0) → List Modifier × A → Type 0
Modified Good x = BothGood (λ ms. Any ms) Good x

module _ {A : Type 0} {r : Reader A} {parts : A → List Part} {Good : A → Type 0} (reads : Reads r parts Good) (free : (x : A) → heads (no 0x01) (parts x) ≡ true) where
  void_reads : Reads (void_or r) (void_parts parts) (VoidGood Good)
  unfolding void_or
  void_reads =
      form_reads 0x01 (λ u. None) unit_reads (change_reads (λ x. Some x) reads (λ u good. (u, good, refl)) (λ u. refl) (λ v good. good)) (λ u. refl) (λ u good. tt) fine which
    where
      fine : (v : Option A) → (u : A) × Good u × (Some u ≡ v) → VoidGood Good v
      fine v good = subst (VoidGood Good) good.2 good.1

      which : (v : Option A) → VoidGood Good v → ((u : ⊤) × ⊤ × (None ≡ v)) ⊎ (((u : A) × Good u × (Some u ≡ v)) × (heads (no 0x01) (void_parts parts v) ≡ true))
      which None good = inl (tt, tt, refl)
      which (Some x) good = inr ((x, good, refl), free x)

  void_no_modifier : ((x : A) → heads no_modifier (parts x) ≡ true) → (v : Option A) → heads no_modifier (void_parts parts v) ≡ true
  void_no_modifier each None = refl
  void_no_modifier each (Some x) = each x

  module _ (known : NumbersAreRead) (each : (x : A) → heads no_modifier (parts x) ≡ true) where
    -- modifiers, and VOID or something else
    void_target : Reads (both modifiers_at (void_or r)) (both_parts modifiers_parts (void_parts parts)) (Modified (VoidGood Good))
    unfolding modifiers_at
    void_target = led_reads (modifier_leads known) void_reads (λ v good. void_no_modifier each v)

module _ (known : NumbersAreRead) (d : ℕ) (nested : Reader Core) (cores : Reads nested core_parts (IsCoreWithin d)) where
  modded_reads : Reads (both modifiers_at nested) (both_parts modifiers_parts core_parts) (Modified (IsCoreWithin d))
  unfolding modifiers_at
  modded_reads = led_reads (modifier_leads known) cores (λ v good. core_heads no_modifier start_no_modifier v)

  pub typed_reads : Reads (typed_at nested) typed_parts (IsTypedWithin d)
  unfolding typed_at
  typed_reads = change_reads (λ x. typed x.0 x.1) modded_reads (λ u good. good.1) (λ u. refl) back
    where
      back : (t : Typed) → IsTypedWithin d t → (u : List Modifier × Core) × Modified (IsCoreWithin d) u × (typed u.0 u.1 ≡ t)
      back (typed modifiers core) good = ((modifiers, core), (tt, good), refl)

  pub target_reads : Reads (target_at nested) (both_parts modifiers_parts (void_parts core_parts)) (Modified (VoidGood (IsCoreWithin d)))
  unfolding target_at
  target_reads = void_target cores (core_heads (no 0x01) (λ c. no_start 0x01 c refl)) known (core_heads no_modifier start_no_modifier)

  module _ (some_depth : 1 ≤ d) where
    content_found : (b : List ℕ) → IsBytes b → IfSome (content_at nested b) (Takes content_parts (IsContentWithin d) b)
    unfolding content_at
    content_found [] h = tt
    content_found (c ∷ b) h =
        IfSome-cond (Takes content_parts (IsContentWithin d) (c ∷ b)) (eqb c 0x16) _ _
        (λ e. record { good = (some_depth, tt); bytes = λ k. h (suc k); head = behind_byte c 0x16 [] b b (eqb-true c 0x16 e) refl })
        (λ e.
        IfSome-cond (Takes content_parts (IsContentWithin d) (c ∷ b)) (eqb c 0x10) _ _
        (λ e.
        IfSome-map (Takes (both_parts modifiers_parts core_parts) (Modified (IsCoreWithin d)) b) (Takes content_parts (IsContentWithin d) (c ∷ b)) (λ x. (by_ref x.0.0 x.0.1, x.1)) (both modifiers_at nested b) (modded_reads.found b (λ k. h (suc k)))
        (λ x t. record { good = t.good.1; bytes = t.bytes; head = behind_byte c 0x10 _ b x.1 (eqb-true c 0x10 e) t.head }))
        (λ e.
        IfSome-map (Takes core_parts (IsCoreWithin d) (c ∷ b)) (Takes content_parts (IsContentWithin d) (c ∷ b)) (λ x. (plain x.0, x.1)) (nested (c ∷ b)) (cores.found (c ∷ b) h)
        (λ x t. record { good = t.good; bytes = t.bytes; head = t.head })))

    content_only : (b tail : List ℕ) (v : Content) → IsContentWithin d v → Head (content_parts v) b tail → content_at nested b ≡ Some (v, tail)
    unfolding content_at
    content_only b tail typed_ref good f = let s = head_byte 0x16 [] b tail f in rw (s.1) (ap (λ (t : List ℕ). Some (typed_ref, t)) s.2)
    content_only b tail (by_ref modifiers core) good f =
        let s = head_byte 0x10 (modifiers_parts modifiers ++ core_parts core) b tail f in
        let e = modded_reads.only s.0 tail (modifiers, core) (tt, good) s.2 in
        rw (s.1, e) refl
    content_only b tail (plain core) good f =
        let e = cores.only b tail core good f in
        let other = λ (n : ℕ) (is : may_start n ≡ false). begins-heads (no n) (core_parts core) b tail (core_heads (no n) (λ c. no_start n c is) core) f in
        let by_refs : Reader Content = change (λ x. by_ref x.0 x.1) (both modifiers_at nested) in
        behind_other 0x16 (λ t. Some (typed_ref, t)) (behind 0x10 by_refs (change plain nested)) b (other 0x16 refl) ∙ behind_other 0x10 by_refs (change plain nested) b (other 0x10 refl) ∙ rw e refl

    pub content_reads : Reads (content_at nested) content_parts (IsContentWithin d)
    content_reads = record { found = content_found; only = content_only }

    pub slot_reads : Reads (slot_at nested) slot_parts (IsSlotWithin d)
    unfolding slot_at modifiers_at
    slot_reads =
        change_reads (λ x. slot x.0 x.1) (led_reads (modifier_leads known) content_reads (λ v good. content_heads no_modifier start_no_modifier refl refl v)) (λ u good. good.1) (λ u. refl) back
      where
        back : (t : Slot) → IsSlotWithin d t → (u : List Modifier × Content) × Modified (IsContentWithin d) u × (slot u.0 u.1 ≡ t)
        back (slot modifiers content) good = ((modifiers, content), (tt, good), refl)

    pub ret_reads : Reads (ret_at nested) ret_parts (IsRetWithin d)
    unfolding ret_at
    ret_reads =
        change_reads ret_from (void_target content_reads (content_heads (no 0x01) (λ c. no_start 0x01 c refl) refl refl) known (content_heads no_modifier start_no_modifier refl refl)) good same back
      where
        good : (u : List Modifier × Option Content) → Modified (VoidGood (IsContentWithin d)) u → IsRetWithin d (ret_from u)
        good (modifiers, None) h = (some_depth, tt)
        good (modifiers, Some p) h = h.1

        same : (u : List Modifier × Option Content) → ret_parts (ret_from u) ≡ modifiers_parts u.0 ++ void_parts content_parts u.1
        same (modifiers, None) = refl
        same (modifiers, Some p) = refl

        back : (r : Ret) → IsRetWithin d r → (u : List Modifier × Option Content) × Modified (VoidGood (IsContentWithin d)) u × (ret_from u ≡ r)
        back (void_ret modifiers) good = ((modifiers, None), (tt, tt), refl)
        back (some_ret (slot modifiers p)) good = ((modifiers, Some p), (tt, good), refl)
