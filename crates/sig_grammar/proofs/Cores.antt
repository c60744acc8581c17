-- A core of any depth is read as it is encoded.
use Rattle.sig_grammar.proofs.Prelude.{◌≡◌, ◌≢◌, ℕ, zero, suc, ◌≤◌, Bool, true, false, cond, eqb, Option, Some, None, List, [], ◌∷◌, length, refl, sym, ap, ap₂, ◌∙◌, subst, arith, IfSome, ℤ, AllByRecursion, eqb-true, eqb-false, ne_eqb, Token, Element, Modifier, Core, simple, void_pointer, pointer, vector, array, class, value, var, mvar, instance, function, Typed, Types, no_types, type_then, ArrayShape, Method, method, Content, typed_ref, plain, by_ref, slot, Ret, some_ret, void_ret, types_from, element_code, Part, byte, number, index, named_code, core_parts, typed_parts, modifiers_parts, shape_parts, method_parts, core_depth, types_depth, content_depth, ret_depth, method_depth, IsCore, AreTypes, IsArrayShape, IsCoreWithin, IsTypedWithin, Reader, change, both, deep, number_at, signed_at, typed_at, target_at, pointer_to, named_at, instance_at, instance_from, counted_within, shape_at, shape_from, shape_with, array_at, array_from, method_at, core_by, core_or, core_at, element_of, IfSome-map, IfSome-cond, count-types_from, parts-types_from, types_good}
use Rattle.sig_grammar.proofs.Readers.{IsBytes, Head, Takes, Reads, head_byte, behind_byte, change_reads, then_reads, unless_reads, NumbersAreRead, Any, number_parts, number_reads, signed_parts, signed_reads, index_parts, index_reads, both_reads, both_parts, BothGood, counted_reads, counted_parts, within_reads}
use Rattle.sig_grammar.proofs.Codes.{element_found, element_again, typed_reads, target_reads, void_parts, VoidGood, Modified}
use Rattle.sig_grammar.proofs.Methods.{method_reads, IsMethodOf}

-- ---- lists of types

types_to : Types → List Typed
types_to no_types = []
types_to (type_then t ts) = t ∷ types_to ts

types_from_to : (ts : Types) → types_from (types_to ts) ≡ ts
unfolding types_to
types_from_to no_types = refl
types_from_to (type_then t ts) = ap (type_then t) (types_from_to ts)

types_good_to : (d : ℕ) (ts : Types) → types_depth ts ≤ d → AreTypes ts → AllByRecursion (IsTypedWithin d) (types_to ts)
unfolding types_to
types_good_to d no_types le h = tt
types_good_to d (type_then t ts) le h = ((omega arith, h.0), types_good_to d ts (omega arith) h.1)

-- ---- CLASS or VALUETYPE

named_parts : Bool → List Part
named_parts b = byte (named_code b) ∷ []

named_reads : Reads named_at named_parts (λ b. Any b)
unfolding named_at named_parts
named_reads = record { found = found; only = only }
  where
    found : (b : List ℕ) → IsBytes b → IfSome (named_at b) (Takes named_parts (λ b. Any b) b)
    found [] h = tt
    found (c ∷ b) h =
        IfSome-cond (Takes named_parts (λ b. Any b) (c ∷ b)) (eqb c 0x11) _ _
        (λ e. record { good = tt; bytes = λ k. h (suc k); head = behind_byte c 0x11 [] b b (eqb-true c 0x11 e) refl })
        (λ e. IfSome-cond (Takes named_parts (λ b. Any b) (c ∷ b)) (eqb c 0x12) _ _
        (λ e. record { good = tt; bytes = λ k. h (suc k); head = behind_byte c 0x12 [] b b (eqb-true c 0x12 e) refl })
        (λ e. tt))

    only : (b remainder : List ℕ) (v : Bool) → Any v → Head (named_parts v) b remainder → named_at b ≡ Some (v, remainder)
    only b remainder true good f = let s = head_byte 0x11 [] b remainder f in rw (s.1) (ap (λ (t : List ℕ). Some (true, t)) s.2)
    only b remainder false good f = let s = head_byte 0x12 [] b remainder f in rw (s.1) (ap (λ (t : List ℕ). Some (false, t)) s.2)

-- ---- shapes of arrays

abbrev bounds_parts : List ℕ × List ℤ → List Part
bounds_parts x = both_parts (counted_parts number_parts) (counted_parts signed_parts) x

abbrev BoundsGood : ℕ → List ℕ × List ℤ → Type 0
BoundsGood rank x = (length x.0 ≤ rank) × (length x.1 ≤ rank)

-- what is read after the rank
abbrev IsShapeOf : ℕ → ArrayShape → Type 0
IsShapeOf n v = (v.rank ≡ n) × BoundsGood n (v.sizes, v.low)

shape_of : NumbersAreRead → (n : ℕ) → Reads (shape_from n) (λ v. bounds_parts (v.sizes, v.low)) (λ v. IsShapeOf n v × (eqb n 0 ≡ false))
shape_of known n = unless_reads (change_reads (shape_with n) bounds (λ u good. (refl, good)) (λ u. refl) back) (eqb n 0)
  where
    bounds : Reads (both (counted_within number_at n) (counted_within signed_at n)) bounds_parts (BoundsGood n)
    bounds = both_reads (within_reads known (number_reads known) n) (within_reads known (signed_reads known) n)

    back : (v : ArrayShape) → IsShapeOf n v → (u : List ℕ × List ℤ) × BoundsGood n u × (shape_with n u ≡ v)
    back v good = ((v.sizes, v.low), good.1, ap (λ (rank : ℕ). shape_with rank (v.sizes, v.low)) (sym good.0))

pub shape_reads : NumbersAreRead → Reads shape_at shape_parts IsArrayShape
unfolding shape_at
shape_reads known =
    then_reads shape_from (λ v. v.rank) (λ v. bounds_parts (v.sizes, v.low)) (λ n v. IsShapeOf n v × (eqb n 0 ≡ false)) (number_reads known) (λ n any. shape_of known n) up
    (λ v good. (tt, ((refl, (good.1, good.2)), ne_eqb v.rank 0 (λ e. omega (arith, good.0)))))
  where
    up : (n : ℕ) (v : ArrayShape) → Any n → IsShapeOf n v × (eqb n 0 ≡ false) → IsArrayShape v × (v.rank ≡ n)
    up n v any good =
        let some : n ≢ 0 = eqb-false n 0 good.1 in
        let same = good.0.0 in
        let bounds = good.0.1 in
        ((omega arith, omega (arith, bounds.0), omega (arith, bounds.1)), same)

-- ---- cores

deep_found : {A : Type 0} (Q : A × List ℕ → Type 0) (d : ℕ) (r : Reader A) (b : List ℕ) → (1 ≤ d → IfSome (r b) Q) → IfSome (deep d r b) Q
deep_found Q zero r b h = tt
deep_found Q (suc d) r b h = h (omega arith)

deep_only : {A : Type 0} (d : ℕ) (r : Reader A) (b : List ℕ) → 1 ≤ d → deep d r b ≡ r b
deep_only zero r b h = absurd (omega arith)
deep_only (suc d) r b h = refl

-- the depth of each type is at least 1
core_some : (c : Core) → 1 ≤ core_depth c
core_some (vector of) = omega arith
core_some _ = omega arith

method_some : (m : Method) → 1 ≤ method_depth m
method_some (method kind this explicit generic ret params sentinel) = omega (arith, ret_some ret)
  where
    content_some : (p : Content) → 1 ≤ content_depth p
    content_some typed_ref = omega arith
    content_some (plain c) = core_some c
    content_some (by_ref modifiers c) = core_some c

    ret_some : (r : Ret) → 1 ≤ ret_depth r
    ret_some (void_ret modifiers) = omega arith
    ret_some (some_ret (slot modifiers p)) = content_some p

module _ (known : NumbersAreRead) (d : ℕ) (nested : Reader Core) (cores : Reads nested core_parts (IsCoreWithin d)) where
  abbrev TakesCore : List ℕ → Core × List ℕ → Type 0
  TakesCore b = Takes core_parts (IsCoreWithin (suc d)) b

  -- the byte c at the start, and what is read after it, as a core
  abbrev NextIs : List ℕ → List ℕ → Core → Type 0
  NextIs b remainder v = (c : ℕ) × (tail : List ℕ) × (b ≡ c ∷ tail) × (core_or d nested c (element_of c) tail ≡ Some (v, remainder))

  -- a core that a reader reads after a byte
  module _ {A : Type 0} {r : Reader A} {parts : A → List Part} {Good : A → Type 0} (n : ℕ) (f : A → Core) (reads : Reads r parts Good) (same : (u : A) → core_parts (f u) ≡ byte n ∷ parts u) where
    made : ((u : A) → Good u → IsCoreWithin (suc d) (f u)) → (c : ℕ) (b : List ℕ) → IsBytes b → c ≡ n → IfSome (change f r b) (TakesCore (c ∷ b))
    made good c b h e =
        IfSome-map (Takes parts Good b) (TakesCore (c ∷ b)) (λ x. (f x.0, x.1)) (r b) (reads.found b h)
        (λ x t. record {
          good = good x.0 t.good;
          bytes = t.bytes;
          head = subst (λ (ps : List Part). Head ps (c ∷ b) x.1) (sym (same x.0)) (behind_byte c n (parts x.0) b x.1 e t.head);
        })

    step : (b remainder : List ℕ) (u : A) → Good u → ((t : List ℕ) → core_or d nested n (element_of n) t ≡ change f r t) → (v : Core) → f u ≡ v → Head (core_parts v) b remainder → NextIs b remainder v
    step b remainder u good is v e h =
        let there = subst (λ (ps : List Part). Head ps b remainder) (same u) (subst (λ (w : Core). Head (core_parts w) b remainder) (sym e) h) in
        let s = head_byte n (parts u) b remainder there in
        let read = reads.only s.0 remainder u good s.2 in
        (n, s.0, s.1, is s.0 ∙ rw read (ap (λ (w : Core). Some (w, remainder)) e))

  at : (Q : Core × List ℕ → Type 0) (c n : ℕ) (x other : Option (Core × List ℕ)) → (c ≡ n → IfSome x Q) → IfSome other Q → IfSome (cond (eqb c n) x other) Q
  at Q c n x other h k = IfSome-cond Q (eqb c n) x other (λ t. h (eqb-true c n t)) (λ t. k)

  types : Reads (typed_at nested) typed_parts (IsTypedWithin d)
  types = typed_reads known d nested cores

  target : Reads (target_at nested) (both_parts modifiers_parts (void_parts core_parts)) (Modified (VoidGood (IsCoreWithin d)))
  target = target_reads known d nested cores

  methods : (some : 1 ≤ d) → Reads (method_at true nested) method_parts (IsMethodOf known d nested cores some true)
  methods some = method_reads known d nested cores some true

  instances : Reads (instance_at nested) (both_parts (both_parts named_parts index_parts) (counted_parts typed_parts)) (BothGood (BothGood (λ b. Any b) (λ t. Any t)) (AllByRecursion (IsTypedWithin d)))
  unfolding instance_at
  instances = both_reads (both_reads named_reads (index_reads known)) (counted_reads types known)

  instance_same : (u : (Bool × Token) × List Typed) → core_parts (instance_from u) ≡ byte 0x15 ∷ both_parts (both_parts named_parts index_parts) (counted_parts typed_parts) u
  unfolding named_parts
  instance_same u =
      ap₂ (λ (n : ℕ) (ps : List Part). byte 0x15 ∷ byte (named_code u.0.0) ∷ index u.0.1 ∷ number n ∷ ps) (count-types_from u.1) (parts-types_from u.1)

  arrays : Reads (array_at nested) (both_parts typed_parts shape_parts) (BothGood (IsTypedWithin d) IsArrayShape)
  unfolding array_at
  arrays = both_reads types (shape_reads known)

  pointer_good : (u : List Modifier × Option Core) → 1 ≤ d → Modified (VoidGood (IsCoreWithin d)) u → IsCoreWithin (suc d) (pointer_to u)
  pointer_good (modifiers, None) some_depth good = (omega arith, tt)
  pointer_good (modifiers, Some c) some_depth good = let le = good.1.0 in (omega arith, good.1.1)

  pointer_same : (u : List Modifier × Option Core) → core_parts (pointer_to u) ≡ byte 0x0F ∷ both_parts modifiers_parts (void_parts core_parts) u
  pointer_same (modifiers, None) = refl
  pointer_same (modifiers, Some c) = refl

  leaf : (c : Core) → core_depth c ≡ 1 → IsCore c → IsCoreWithin (suc d) c
  leaf c e h = (omega (arith, e), h)

  by_found : (c : ℕ) (b : List ℕ) → IsBytes b → IfSome (core_by d nested c b) (TakesCore (c ∷ b))
  unfolding core_by
  by_found c b h =
      let Q : Core × List ℕ → Type 0 = TakesCore (c ∷ b) in
      at Q c 0x0F _ _ (λ e. deep_found Q d (change pointer_to (target_at nested)) b (λ some. made 0x0F pointer_to target pointer_same (λ u. pointer_good u some) c b h e))
      (at Q c 0x11 _ _ (made 0x11 value (index_reads known) (λ u. refl) (λ u g. leaf (value u) refl tt) c b h)
      (at Q c 0x12 _ _ (made 0x12 class (index_reads known) (λ u. refl) (λ u g. leaf (class u) refl tt) c b h)
      (at Q c 0x13 _ _ (made 0x13 var (number_reads known) (λ u. refl) (λ u g. leaf (var u) refl tt) c b h)
      (at Q c 0x14 _ _ (made 0x14 array_from arrays (λ u. refl) (λ u g. let le = g.0.0 in (omega arith, (g.0.1, g.1))) c b h)
      (at Q c 0x15 _ _ (made 0x15 instance_from instances instance_same (λ u g. let all = types_good d u.1 g.1 in (omega (arith, all.0), all.1)) c b h)
      (at Q c 0x1B _ _ (λ e. deep_found Q d (change function (method_at true nested)) b (λ some. made 0x1B function (methods some) (λ u. refl) (λ u g. (let le = g.0 in omega arith, g.1)) c b h e))
      (at Q c 0x1D _ _ (made 0x1D vector types (λ u. refl) (λ u g. (let le = g.0 in omega arith, g.1)) c b h)
      (at Q c 0x1E _ _ (made 0x1E mvar (number_reads known) (λ u. refl) (λ u g. leaf (mvar u) refl tt) c b h) tt))))))))

  or_found : (c : ℕ) (b : List ℕ) → IsBytes b → (o : Option Element) → IfSome o (λ e. c ≡ element_code e) → IfSome (core_or d nested c o b) (TakesCore (c ∷ b))
  or_found c b h None k = by_found c b h
  or_found c b h (Some e) k = record { good = leaf (simple e) refl tt; bytes = h; head = behind_byte c (element_code e) [] b b k refl }

  next_only : (b remainder : List ℕ) (v : Core) → IsCoreWithin (suc d) v → Head (core_parts v) b remainder → NextIs b remainder v
  unfolding core_by element_of
  next_only b remainder (simple e) good f =
      let s = head_byte (element_code e) [] b remainder f in
      (element_code e, s.0, s.1, rw (element_again e) (ap (λ (t : List ℕ). Some (simple e, t)) s.2))
  next_only b remainder (void_pointer modifiers) good f =
      let le = good.0 in
      step 0x0F pointer_to target pointer_same b remainder (modifiers, None) (tt, tt) (λ t. deep_only d _ t (omega arith)) _ refl f
  next_only b remainder (pointer modifiers to) good f =
      let le = good.0 in
      step 0x0F pointer_to target pointer_same b remainder (modifiers, Some to) (tt, (omega arith, good.1)) (λ t. deep_only d _ t (omega (arith, core_some to))) _ refl f
  next_only b remainder (vector of) good f = let le = good.0 in step 0x1D vector types (λ u. refl) b remainder of (omega arith, good.1) (λ t. refl) _ refl f
  next_only b remainder (array of shape) good f =
      let le = good.0 in
      step 0x14 array_from arrays (λ u. refl) b remainder (of, shape) ((omega arith, good.1.0), good.1.1) (λ t. refl) _ refl f
  next_only b remainder (class of) good f = step 0x12 class (index_reads known) (λ u. refl) b remainder of tt (λ t. refl) _ refl f
  next_only b remainder (value of) good f = step 0x11 value (index_reads known) (λ u. refl) b remainder of tt (λ t. refl) _ refl f
  next_only b remainder (var n) good f = step 0x13 var (number_reads known) (λ u. refl) b remainder n tt (λ t. refl) _ refl f
  next_only b remainder (mvar n) good f = step 0x1E mvar (number_reads known) (λ u. refl) b remainder n tt (λ t. refl) _ refl f
  next_only b remainder (instance is_value of args) good f =
      let le = good.0 in
      step 0x15 instance_from instances instance_same b remainder ((is_value, of), types_to args) ((tt, tt), types_good_to d args (omega arith) good.1) (λ t. refl) _ (ap (instance is_value of) (types_from_to args)) f
  next_only b remainder (function m) good f =
      let le = good.0 in
      let some : 1 ≤ d = omega (arith, method_some m) in
      step 0x1B function (methods some) (λ u. refl) b remainder m (omega arith, good.1, tt) (λ t. deep_only d _ t some) _ refl f

next_found : NumbersAreRead → (d : ℕ) → Reads (core_at d) core_parts (IsCoreWithin d) → (b : List ℕ) → IsBytes b → IfSome (core_at (suc d) b) (Takes core_parts (IsCoreWithin (suc d)) b)
unfolding core_at
next_found known d cores [] h = tt
next_found known d cores (c ∷ b) h = or_found known d (core_at d) cores c b (λ k. h (suc k)) (element_of c) (element_found c)

pub core_reads : NumbersAreRead → (d : ℕ) → Reads (core_at d) core_parts (IsCoreWithin d)
unfolding core_at
core_reads known zero = record {
  found = λ b h. tt;
  only = λ b remainder v good f. absurd (omega (arith, good.0, core_some v));
}
core_reads known (suc d) = record {
  found = next_found known d (core_reads known d);
  only = λ b remainder v good f.
      let s = next_only known d (core_at d) (core_reads known d) b remainder v good f in
      rw (s.2) (s.3);
}
