-- The items of a value give its parts, and whether the grammar and the depth allow it.
use Rattle.sig_encoder.proofs.Prelude.{◌≡◌, ◌∙◌, ℕ, zero, suc, ◌-◌, ◌<◌, ◌≤◌, inl, inr, ⊎_elim, Bool, true, false, eqb, ltb, Option, Some, None, List, [], ◌∷◌, ◌++◌, length, refl, ap, sym, arith, lit<, ⊤, IfSome, ◌||◌, ◌&&◌, AllByRecursion, ltb-true, lt-ltb, eqb-true, eq-eqb, and_parts, or_cases, or_left, or_right, and_from, leb-true, le-leb, Part, byte, types_from, slots_from, list_parts, modifiers_parts, prefixes_parts, generic_parts, shape_parts, core_parts, typed_parts, types_parts, content_parts, slot_parts, slots_parts, ret_parts, method_parts, local_parts, body_parts, count_slots, core_depth, types_depth, slots_depth, IsMethodKind, IsSentinel, IsArrayShape, AreTypes, AreSlots, IsCoreWithin, IsTypedWithin, IsContentWithin, IsSlotWithin, IsRetWithin, IsMethodWithin, IsLocalWithin, IsBodyWithin, Item, part, broken, parts_items, rule, leaf_items, is_method_kind, may_stand, is_call, is_shape, shape_items, core_items, first_items, typed_items, types_items, content_items, slot_items, slots_items, ret_items, method_items, local_items, locals_items, body_items, kept, unbroken}
use Rattle.sig_grammar.specs.Syntax.{Core, simple, void_pointer, pointer, vector, array, class, value, var, mvar, instance, function, Typed, typed, Types, no_types, type_then, Content, typed_ref, plain, by_ref, Slot, slot, Slots, no_slots, slot_then, Ret, some_ret, void_ret, Method, method, ArrayShape, LocalVariable, local, Body, field, method_body, property, locals, instance_body, type_spec}
use Rattle.sig_grammar.proofs.FromLists.{count-types_from, parts-types_from, types_good, each_type, count-slots_from, parts-slots_from, slots_good, each_slot}

pub record Says (Good : Type 0) (xs : List Item) (ps : List Part) : Type 0 where
  pub same : kept xs ≡ ps
  pub to : unbroken xs ≡ true → Good
  pub back : Good → unbroken xs ≡ true

-- ---- lists

kept-append : (xs ys : List Item) → kept (xs ++ ys) ≡ kept xs ++ kept ys
kept-append [] ys = refl
kept-append (part p ∷ xs) ys = ap (λ (zs : List Part). p ∷ zs) (kept-append xs ys)
kept-append (broken ∷ xs) ys = kept-append xs ys

unbroken-append : (xs ys : List Item) → unbroken (xs ++ ys) ≡ (unbroken xs && unbroken ys)
unbroken-append [] ys = refl
unbroken-append (part p ∷ xs) ys = unbroken-append xs ys
unbroken-append (broken ∷ xs) ys = refl

says_same : {G H : Type 0} {xs : List Item} {ps : List Part} → Says G xs ps → (G → H) → (H → G) → Says H xs ps
says_same s to back = record { same = s.same; to = λ e. to (s.to e); back = λ h. s.back (back h) }

says_none : Says ⊤ [] []
says_none = record { same = refl; to = λ e. tt; back = λ g. refl }

says_part : {G : Type 0} {xs : List Item} {ps : List Part} (p : Part) → Says G xs ps → Says G (part p ∷ xs) (p ∷ ps)
says_part p s = record { same = ap (λ (zs : List Part). p ∷ zs) s.same; to = s.to; back = s.back }

says_both : {G H : Type 0} {xs ys : List Item} {ps qs : List Part} → Says G xs ps → Says H ys qs → Says (G × H) (xs ++ ys) (ps ++ qs)
says_both {G} {H} {xs} {ys} {ps} {qs} s t =
    record {
      same = kept-append xs ys ∙ ap (λ (zs : List Part). zs ++ kept ys) s.same ∙ ap (λ (zs : List Part). ps ++ zs) t.same;
      to = λ e. let two = and_parts (unbroken xs) (unbroken ys) (sym (unbroken-append xs ys) ∙ e) in (s.to two.0, t.to two.1);
      back = λ g. unbroken-append xs ys ∙ and_from (unbroken xs) (unbroken ys) (s.back g.0) (t.back g.1);
    }

says_parts : (ps : List Part) → Says ⊤ (parts_items ps) ps
says_parts [] = says_none
says_parts (p ∷ ps) = says_part p (says_parts ps)

modded : {G : Type 0} {ys : List Item} {qs : List Part} (ps : List Part) → Says G ys qs → Says G (parts_items ps ++ ys) (ps ++ qs)
modded ps s = says_same (says_both (says_parts ps) s) (λ g. g.1) (λ g. (tt, g))

rule_says : {G H : Type 0} {ys : List Item} {qs : List Part} (b : Bool) → (b ≡ true → G) → (G → b ≡ true) → Says H ys qs → Says (G × H) (rule b ++ ys) qs
unfolding rule
rule_says true to back s = record { same = s.same; to = λ e. (to refl, s.to e); back = λ g. s.back g.1 }
rule_says false to back s = record { same = s.same; to = λ e. absurd (cc); back = λ g. absurd (let e = back g.0 in cc) }

-- ---- depth

core_deep : (c : Core) → 0 < core_depth c
core_deep (pointer modifiers to) = omega arith
core_deep (vector of) = omega arith
core_deep (array of shape) = omega arith
core_deep (instance is_value of args) = omega arith
core_deep (function m) = omega arith
core_deep (void_pointer modifiers) = lit< tt
core_deep _ = lit< tt

abbrev pub FirstSays : Core → Type 0
FirstSays c = (depth : ℕ) → Says (IsCoreWithin (suc depth) c) (first_items c depth) (core_parts c)

at_says : (c : Core) → FirstSays c → (depth : ℕ) → Says (IsCoreWithin depth c) (core_items c depth) (core_parts c)
at_says c h zero =
    says_same (rule_says (ltb 0 0) (λ e. ltb-true 0 0 e) (λ lt. lt-ltb 0 0 lt) (h (0 - 1)))
    (λ g. let none = g.0 in absurd (omega arith)) (λ g. let some = core_deep c in let none = g.0 in absurd (omega arith))
at_says c h (suc depth) =
    let same : suc depth - 1 ≡ depth = omega arith in
    says_same (rule_says (ltb 0 (suc depth)) (λ e. ltb-true 0 (suc depth) e) (λ lt. lt-ltb 0 (suc depth) lt) (rw same (h depth)))
    (λ g. g.1) (λ g. (omega arith, g))

leaf_says : (code depth : ℕ) → Says (1 ≤ depth) (leaf_items code depth) (byte code ∷ [])
leaf_says code depth =
    says_same (rule_says (ltb 0 depth) (λ e. ltb-true 0 depth e) (λ lt. lt-ltb 0 depth lt) (says_part (byte code) says_none))
    (λ g. let lt = g.0 in omega arith) (λ le. (omega arith, tt))

-- ---- shapes and methods

shape_to : (shape : ArrayShape) → is_shape shape ≡ true → IsArrayShape shape
shape_to shape e =
    let one = and_parts (ltb 0 shape.rank) _ e in
    let two = and_parts _ _ one.1 in
    let some = ltb-true 0 shape.rank one.0 in
    (omega arith, leb-true (length shape.sizes) shape.rank two.0, leb-true (length shape.low) shape.rank two.1)

shape_back : (shape : ArrayShape) → IsArrayShape shape → is_shape shape ≡ true
shape_back shape g =
    let some = g.0 in
    and_from _ _ (lt-ltb 0 shape.rank (omega arith)) (and_from _ _ (le-leb (length shape.sizes) shape.rank g.1) (le-leb (length shape.low) shape.rank g.2))

shape_says : (shape : ArrayShape) → Says (IsArrayShape shape) (shape_items shape) (shape_parts shape)
shape_says shape = says_same (rule_says (is_shape shape) (shape_to shape) (shape_back shape) (says_parts (shape_parts shape))) (λ g. g.0) (λ g. (g, tt))

method_kind : (kind : ℕ) → is_method_kind kind ≡ true → IsMethodKind kind
method_kind kind e = ⊎_elim (λ lt. inl (ltb-true kind 6 lt)) (λ nine. inr (eqb-true kind 9 nine)) (or_cases (ltb kind 6) (eqb kind 9) e)

kind_method : (kind : ℕ) → IsMethodKind kind → is_method_kind kind ≡ true
kind_method kind h = ⊎_elim (λ lt. or_left (ltb kind 6) (eqb kind 9) (lt-ltb kind 6 lt)) (λ nine. or_right (ltb kind 6) (eqb kind 9) (eq-eqb kind 9 nine)) h

stands : (kind count : ℕ) (sentinel : Option ℕ) → may_stand kind count sentinel ≡ true → IfSome sentinel (IsSentinel kind count)
stands kind count None e = tt
stands kind count (Some before) e =
    let two = and_parts (ltb before count) (eqb kind 1 || eqb kind 5) e in
    (ltb-true before count two.0, ⊎_elim (λ one. inl (eqb-true kind 1 one)) (λ five. inr (eqb-true kind 5 five)) (or_cases (eqb kind 1) (eqb kind 5) two.1))

may : (kind count : ℕ) (sentinel : Option ℕ) → IfSome sentinel (IsSentinel kind count) → may_stand kind count sentinel ≡ true
may kind count None h = refl
may kind count (Some before) h =
    let varied = ⊎_elim (λ one. or_left (eqb kind 1) (eqb kind 5) (eq-eqb kind 1 one)) (λ five. or_right (eqb kind 1) (eqb kind 5) (eq-eqb kind 5 five)) h.1 in
    and_from (ltb before count) (eqb kind 1 || eqb kind 5) (lt-ltb before count h.0) varied

abbrev IsCall : ℕ → ℕ → Option ℕ → Type 0
IsCall kind count sentinel = IsMethodKind kind × IfSome sentinel (IsSentinel kind count)

call_to : (kind count : ℕ) (sentinel : Option ℕ) → is_call kind count sentinel ≡ true → IsCall kind count sentinel
call_to kind count sentinel e = let two = and_parts (is_method_kind kind) (may_stand kind count sentinel) e in (method_kind kind two.0, stands kind count sentinel two.1)

call_back : (kind count : ℕ) (sentinel : Option ℕ) → IsCall kind count sentinel → is_call kind count sentinel ≡ true
call_back kind count sentinel g = and_from (is_method_kind kind) (may_stand kind count sentinel) (kind_method kind g.0) (may kind count sentinel g.1)

-- ---- types

mutual
  first_says : (c : Core) → FirstSays c
  first_says (simple e) depth = says_same (says_part _ says_none) (λ g. (omega arith, tt)) (λ g. tt)
  first_says (void_pointer ms) depth = says_same (says_part _ (modded (modifiers_parts ms) (leaf_says _ depth))) (λ g. (omega arith, tt)) (λ g. let two = g.0 in omega arith)
  first_says (pointer ms to) depth =
      says_same (says_part _ (modded (modifiers_parts ms) (at_says to (first_says to) depth))) (λ g. let le = g.0 in (omega arith, g.1)) (λ g. let le = g.0 in (omega arith, g.1))
  first_says (vector of) depth = says_same (says_part _ (typed_says of depth)) (λ g. let le = g.0 in (omega arith, g.1)) (λ g. let le = g.0 in (omega arith, g.1))
  first_says (array of shape) depth =
      says_same (says_part _ (says_both (typed_says of depth) (shape_says shape)))
      (λ g. let le = g.0.0 in (omega arith, (g.0.1, g.1))) (λ g. let le = g.0 in ((omega arith, g.1.0), g.1.1))
  first_says (class of) depth = says_same (says_part _ (says_part _ says_none)) (λ g. (omega arith, tt)) (λ g. tt)
  first_says (value of) depth = says_same (says_part _ (says_part _ says_none)) (λ g. (omega arith, tt)) (λ g. tt)
  first_says (var n) depth = says_same (says_part _ (says_part _ says_none)) (λ g. (omega arith, tt)) (λ g. tt)
  first_says (mvar n) depth = says_same (says_part _ (says_part _ says_none)) (λ g. (omega arith, tt)) (λ g. tt)
  first_says (instance is_value of args) depth =
      says_same (says_part _ (says_part _ (says_part _ (says_part _ (types_says args depth))))) (λ g. let le = g.0 in (omega arith, g.1)) (λ g. let le = g.0 in (omega arith, g.1))
  first_says (function m) depth = says_same (says_part _ (method_says m depth)) (λ g. let le = g.0 in (omega arith, g.1)) (λ g. let le = g.0 in (omega arith, g.1))

  pub typed_says : (t : Typed) (depth : ℕ) → Says (IsTypedWithin depth t) (typed_items t depth) (typed_parts t)
  typed_says (typed ms core) depth = modded (modifiers_parts ms) (at_says core (first_says core) depth)

  pub types_says : (ts : Types) (depth : ℕ) → Says ((types_depth ts ≤ depth) × AreTypes ts) (types_items ts depth) (types_parts ts)
  types_says no_types depth = says_same says_none (λ g. (omega arith, tt)) (λ g. tt)
  types_says (type_then t ts) depth =
      says_same (says_both (typed_says t depth) (types_says ts depth))
      (λ g. let one = g.0.0 in let more = g.1.0 in (omega arith, (g.0.1, g.1.1))) (λ g. let most = g.0 in ((omega arith, g.1.0), (omega arith, g.1.1)))

  pub content_says : (p : Content) (depth : ℕ) → Says (IsContentWithin depth p) (content_items p depth) (content_parts p)
  content_says typed_ref depth = says_same (leaf_says _ depth) (λ g. (g, tt)) (λ g. g.0)
  content_says (plain core) depth = at_says core (first_says core) depth
  content_says (by_ref ms core) depth = says_part _ (modded (modifiers_parts ms) (at_says core (first_says core) depth))

  pub slot_says : (s : Slot) (depth : ℕ) → Says (IsSlotWithin depth s) (slot_items s depth) (slot_parts s)
  slot_says (slot ms content) depth = modded (modifiers_parts ms) (content_says content depth)

  pub slots_says : (ss : Slots) (sentinel : Option ℕ) (depth : ℕ) → Says ((slots_depth ss ≤ depth) × AreSlots ss) (slots_items ss sentinel depth) (slots_parts ss sentinel)
  slots_says no_slots sentinel depth = says_same says_none (λ g. (omega arith, tt)) (λ g. tt)
  slots_says (slot_then s ss) None depth =
      says_same (says_both (slot_says s depth) (slots_says ss None depth))
      (λ g. let one = g.0.0 in let more = g.1.0 in (omega arith, (g.0.1, g.1.1))) (λ g. let most = g.0 in ((omega arith, g.1.0), (omega arith, g.1.1)))
  slots_says (slot_then s ss) (Some zero) depth =
      says_same (says_part _ (says_both (slot_says s depth) (slots_says ss None depth)))
      (λ g. let one = g.0.0 in let more = g.1.0 in (omega arith, (g.0.1, g.1.1))) (λ g. let most = g.0 in ((omega arith, g.1.0), (omega arith, g.1.1)))
  slots_says (slot_then s ss) (Some (suc before)) depth =
      says_same (says_both (slot_says s depth) (slots_says ss (Some before) depth))
      (λ g. let one = g.0.0 in let more = g.1.0 in (omega arith, (g.0.1, g.1.1))) (λ g. let most = g.0 in ((omega arith, g.1.0), (omega arith, g.1.1)))

  pub ret_says : (r : Ret) (depth : ℕ) → Says (IsRetWithin depth r) (ret_items r depth) (ret_parts r)
  ret_says (some_ret s) depth = slot_says s depth
  ret_says (void_ret ms) depth = says_same (modded (modifiers_parts ms) (leaf_says _ depth)) (λ g. (g, tt)) (λ g. g.0)

  pub method_says : (m : Method) (depth : ℕ) → Says (IsMethodWithin depth m) (method_items m depth) (method_parts m)
  method_says (method kind this explicit generic ret params sentinel) depth =
      says_same (rule_says (is_call kind (count_slots params) sentinel) (call_to kind (count_slots params) sentinel) (call_back kind (count_slots params) sentinel)
      (says_part _ (modded (generic_parts generic) (says_part _ (says_both (ret_says ret depth) (slots_says params sentinel depth))))))
      (λ g. let one = g.1.0.0 in let more = g.1.1.0 in (omega arith, (g.0.0, g.0.1, g.1.0.1, g.1.1.1)))
      (λ g. let most = g.0 in ((g.1.0, g.1.1), ((omega arith, g.1.2), (omega arith, g.1.3))))

-- ---- whole signatures

local_says : (x : LocalVariable) (depth : ℕ) → Says (IsLocalWithin depth x) (local_items x depth) (local_parts x)
local_says (local ps content) depth = modded (prefixes_parts ps) (content_says content depth)

locals_say : (xs : List LocalVariable) (depth : ℕ) → Says (AllByRecursion (IsLocalWithin depth) xs) (locals_items xs depth) (list_parts local_parts xs)
locals_say [] depth = says_none
locals_say (x ∷ xs) depth = says_both (local_says x depth) (locals_say xs depth)

pub body_says : (b : Body) (depth : ℕ) → Says (IsBodyWithin depth b) (body_items b depth) (body_parts b)
body_says (field s) depth = says_part _ (slot_says s depth)
body_says (method_body m) depth = method_says m depth
body_says (property this of params) depth =
    rw (← count-slots_from params, ← parts-slots_from params)
    (says_same (says_part _ (says_part _ (says_both (slot_says of depth) (slots_says (slots_from params) None depth))))
    (λ g. (g.0, each_slot depth params g.1)) (λ g. (g.0, slots_good depth params g.1)))
body_says (locals variables) depth = says_part _ (says_part _ (locals_say variables depth))
body_says (instance_body args) depth =
    rw (← count-types_from args, ← parts-types_from args)
    (says_same (says_part _ (says_part _ (types_says (types_from args) depth))) (λ g. each_type depth args g) (λ g. types_good depth args g))
body_says (type_spec ret) depth = ret_says ret depth
