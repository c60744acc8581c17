-- Skipping a value is reading it, then keeping its first bad token and dropping the value.
use Rattle.sig_recogniser.proofs.Prelude.{◌≡◌, ℕ, zero, suc, ◌/◌, ◌%◌, ◌&&◌, Bool, true, false, not, cond, eqb, ltb, Option, Some, None, is_some, List, [], ◌∷◌, ◌++◌, length, drop, refl, sym, ap, ◌∙◌, ℤ, option_map, option_and_then, flat_map, flat_map-append, Token, SigKind, Modifier, Core, vector, class, value, var, mvar, function, Typed, typed, Content, typed_ref, plain, by_ref, Slot, slot, Slots, no_slots, slot_then, Ret, Method, method, ArrayShape, field, method_body, locals, instance_body, type_spec, Part, byte, number, part_tokens, list_parts, modifiers_parts, prefixes_parts, numbers_parts, bounds_parts, shape_parts, core_parts, typed_parts, content_parts, slot_parts, slots_parts, ret_parts, method_parts, local_parts, body_parts, generic_parts, count_slots, Reader, change, both, behind, fail, deep, number_at, signed_at, many_at, counted_at, counted_within, modifiers_at, prefixes_at, index_at, typed_at, void_or, pointer_to, target_at, named_at, instance_from, instance_at, shape_with, shape_from, shape_at, array_from, array_at, content_at, slot_at, ret_from, ret_at, params_at, generic_at, takes_sentinel, is_method_code, method_from, method_at, core_by, core_or, core_at, element_of, head_is, local_from, local_at, headed_at, property_from, method_or, field_or, property_or, body_at, Left, Skip, noted, passed, with_bad, number_left, skip_number, skip_index, skip_modifiers, skip_prefixes, skip_many, skip_counted, skip_headed, skip_bounds, skip_bounds_twice, skip_shape, skip_typed, skip_void_or, skip_target, skip_named, skip_instance, skip_content, skip_slot, skip_ret, behind_mark, skip_params, skip_call, skip_method, skip_deep, skip_by, skip_core, skip_behind, skip_nothing, skip_local, skip_body}
use Rattle.sig_recogniser.specs.Skips.{skip_generic}
use Rattle.packed.specs.Prefix as head
use Rattle.table_schema.specs.declared.column.SigKind.TheVariants as column
use Rattle.sig_grammar.specs.declared.element.Element.{Element}
use Rattle.sig_grammar.specs.Views.{slots_from}
use Rattle.sig_grammar.specs.ElementTypes.{VOID}
use Rattle.sig_grammar.proofs.FromLists.{parts-types_from}
use Rattle.sig_recogniser.proofs.Noted.{number_parts, signed_parts, index_parts, noted-none, noted_parts, noted_parts-append}
use Rattle.sig_recogniser.proofs.ItemLemmas.{index_passes}

-- the parts of VOID, or of another value
abbrev void_parts : {A : Type 0} → (A → List Part) → Option A → List Part
void_parts parts None = byte VOID ∷ []
void_parts parts (Some x) = parts x

module _ (counts : List ℕ) where
  abbrev pub Passes : {A : Type 0} → Skip → Reader A → (A → List Part) → Type 0
  Passes skip r parts = (b : List ℕ) (bad : Option Token) → skip (b, bad) ≡ passed counts bad parts (r b)

  -- both have the same tokens
  abbrev Same : {A : Type 0} → (A → List Part) → (A → List Part) → Type 0
  Same {A = A} parts more = (x : A) (bad : Option Token) → noted_parts counts bad (more x) ≡ noted_parts counts bad (parts x)

  -- another value made of what was read after some parts
  passed_map : {A B : Type 0} (f : A → B) (parts : A → List Part) (more : B → List Part) (now bad : Option Token) → ((x : A) → noted_parts counts now (parts x) ≡ noted_parts counts bad (more (f x))) → (o : Option (A × List ℕ)) → passed counts now parts o ≡ passed counts bad more (option_map (λ x. (f x.0, x.1)) o)
  passed_map f parts more now bad same None = refl
  passed_map f parts more now bad same (Some x) = ap (λ (t : Option Token). Some (x.1, t)) (same x.0)

  passed_change : {A B : Type 0} (f : A → B) (parts : A → List Part) (more : B → List Part) → Same parts (λ x. more (f x)) → (bad : Option Token) (o : Option (A × List ℕ)) → passed counts bad parts o ≡ passed counts bad more (option_map (λ x. (f x.0, x.1)) o)
  passed_change f parts more same bad o = passed_map f parts more bad bad (λ x. sym (same x bad)) o

  passes_change : {A B : Type 0} (skip : Skip) (f : A → B) (r : Reader A) (parts : A → List Part) (more : B → List Part) → Same parts (λ x. more (f x)) → Passes skip r parts → Passes skip (change f r) more
  passes_change skip f r parts more same passes b bad = passes b bad ∙ passed_change f parts more same bad (r b)

  -- one value after another
  abbrev pair_parts : {A B : Type 0} → (A → List Part) → (B → List Part) → A × B → List Part
  pair_parts parts more x = parts x.0 ++ more x.1

  passes_both : {A B : Type 0} (first second : Skip) (r : Reader A) (q : Reader B) (parts : A → List Part) (more : B → List Part) → Passes first r parts → Passes second q more → Passes (λ here. option_and_then second (first here)) (both r q) (pair_parts parts more)
  unfolding both
  passes_both {A = A} first second r q parts more one two b bad = ap (λ (o : Option Left). option_and_then second o) (one b bad) ∙ of_option (r b)
    where
      of_option : (o : Option (A × List ℕ)) → option_and_then second (passed counts bad parts o) ≡ passed counts bad (pair_parts parts more) (option_and_then (λ x. option_map (λ y. ((x.0, y.0), y.1)) (q x.1)) o)
      of_option None = refl
      of_option (Some x) = two x.1 (noted_parts counts bad (parts x.0)) ∙ passed_map (λ y. (x.0, y)) more (pair_parts parts more) _ bad (λ y. sym (noted_parts-append counts bad (parts x.0) (more y))) (q x.1)

  nothing_noted : (b : List ℕ) (bad : Option Token) → ◌≡◌ {A = Option Left} (Some (b, bad)) (Some (b, noted_parts counts bad []))
  nothing_noted b bad = ap (λ (t : Option Token). Some (b, t)) (sym (noted-none counts bad))

  passes_many : {A : Type 0} (each : Skip) (r : Reader A) (parts : A → List Part) → Passes each r parts → (n : ℕ) → Passes (skip_many each n) (many_at r n) (list_parts parts)
  unfolding skip_many many_at
  passes_many each r parts passes zero b bad = nothing_noted b bad
  passes_many {A = A} each r parts passes (suc n) b bad = ap (λ (o : Option Left). option_and_then (skip_many each n) o) (passes b bad) ∙ of_option (r b) (λ c worse. passes_many each r parts passes n c worse)
    where
      of_option : (o : Option (A × List ℕ)) → Passes (skip_many each n) (many_at r n) (list_parts parts) → option_and_then (skip_many each n) (passed counts bad parts o) ≡ passed counts bad (list_parts parts) (option_and_then (λ x. option_map (λ y. (x.0 ∷ y.0, y.1)) (many_at r n x.1)) o)
      of_option None more = refl
      of_option (Some x) more = more x.1 (noted_parts counts bad (parts x.0)) ∙ passed_map (λ xs. x.0 ∷ xs) (list_parts parts) (list_parts parts) _ bad (λ xs. sym (noted_parts-append counts bad (parts x.0) (list_parts parts xs))) (many_at r n x.1)

  passed_cond : {A : Type 0} (parts : A → List Part) (bad : Option Token) (p : Bool) (x y : Option Left) (u v : Option (A × List ℕ)) → x ≡ passed counts bad parts u → y ≡ passed counts bad parts v → cond p x y ≡ passed counts bad parts (cond p u v)
  passed_cond parts bad true x y u v e f = e
  passed_cond parts bad false x y u v e f = f

  -- ---- numbers

  passed_number : (bad : Option Token) (o : Option (ℕ × List ℕ)) → option_map (λ (x : ℕ × Left). x.1) (option_map (with_bad bad) o) ≡ passed counts bad number_parts o
  passed_number bad None = refl
  passed_number bad (Some x) = nothing_noted x.1 bad

  number_passes : Passes skip_number number_at number_parts
  unfolding skip_number number_left
  number_passes b bad = passed_number bad (number_at b)

  -- a signed number has the bytes of an unsigned one
  signed_passes : Passes skip_number signed_at signed_parts
  unfolding skip_number number_left number_at signed_at head.signed_at
  signed_passes b bad = of_option (head.unsigned_at b)
    where
      of_option : (o : Option (ℕ × ℕ)) → option_map (λ (x : ℕ × Left). x.1) (option_map (with_bad bad) (option_map (λ (x : ℕ × ℕ). (x.0, drop x.1 b)) o)) ≡ passed counts bad signed_parts (option_map (λ (x : ℤ × ℕ). (x.0, drop x.1 b)) (option_map (λ (found : ℕ × ℕ). (head.unrotated (head.bits_of found.1) found.0, found.1)) o))
      of_option None = refl
      of_option (Some x) = nothing_noted (drop x.1 b) bad

  -- what follows a number, depending on its value
  passed_after : {A : Type 0} (skip : ℕ → Skip) (r : ℕ → Reader A) (parts : A → List Part) → ((n : ℕ) → Passes (skip n) (r n) parts) → (bad : Option Token) (o : Option (ℕ × List ℕ)) → option_and_then (λ (x : ℕ × Left). skip x.0 x.1) (option_map (with_bad bad) o) ≡ passed counts bad parts (option_and_then (λ (x : ℕ × List ℕ). r x.0 x.1) o)
  passed_after skip r parts passes bad None = refl
  passed_after skip r parts passes bad (Some x) = passes x.0 x.1 bad

  counted_passes : {A : Type 0} (each : Skip) (r : Reader A) (parts : A → List Part) → Passes each r parts → Passes (skip_counted each) (counted_at r) (list_parts parts)
  unfolding skip_counted number_left counted_at
  counted_passes each r parts passes b bad = passed_after (skip_many each) (many_at r) (list_parts parts) (passes_many each r parts passes) bad (number_at b)

  abbrev headed_parts : {A : Type 0} → (A → List Part) → A × List A → List Part
  headed_parts parts x = parts x.0 ++ list_parts parts x.1

  headed_passes : {A : Type 0} (each : Skip) (r : Reader A) (parts : A → List Part) → Passes each r parts → Passes (skip_headed each) (headed_at r) (headed_parts parts)
  unfolding skip_headed number_left headed_at
  headed_passes each r parts passes b bad =
      passed_after (λ n here. option_and_then (skip_many each n) (each here)) (λ n. both r (many_at r n)) (headed_parts parts) (λ n. passes_both each (skip_many each n) r (many_at r n) parts (list_parts parts) passes (passes_many each r parts passes n)) bad (number_at b)

  bounds_passes : {A : Type 0} (r : Reader A) (parts : A → List Part) → Passes skip_number r parts → (most : ℕ) → Passes (skip_bounds most) (counted_within r most) (list_parts parts)
  unfolding skip_bounds number_left counted_within
  bounds_passes r parts passes most b bad =
      passed_after (λ n here. cond (ltb most n) None (skip_many skip_number n here)) (λ n t. cond (ltb most n) None (many_at r n t)) (list_parts parts) (λ n t worse. passed_cond (list_parts parts) worse (ltb most n) None (skip_many skip_number n (t, worse)) None (many_at r n t) refl (passes_many skip_number r parts passes n t worse)) bad (number_at b)

  shape_passes : Passes skip_shape shape_at shape_parts
  unfolding skip_shape number_left shape_at
  shape_passes b bad = passed_after skip_bounds_twice shape_from shape_parts of_rank bad (number_at b)
    where
      same : (rank : ℕ) → Same (pair_parts numbers_parts bounds_parts) (λ x. shape_parts (shape_with rank x))
      same rank x bad =
          noted_parts-append counts bad (numbers_parts x.0) (number (length x.1) ∷ bounds_parts x.1) ∙ sym (noted_parts-append counts bad (numbers_parts x.0) (bounds_parts x.1))

      of_rank : (rank : ℕ) → Passes (skip_bounds_twice rank) (shape_from rank) shape_parts
      of_rank rank b bad =
          passed_cond shape_parts bad (eqb rank 0) None (option_and_then (skip_bounds rank) (skip_bounds rank (b, bad))) None (change (shape_with rank) (both (counted_within number_at rank) (counted_within signed_at rank)) b) refl (passes_change (λ here. option_and_then (skip_bounds rank) (skip_bounds rank here)) (shape_with rank) (both (counted_within number_at rank) (counted_within signed_at rank)) (pair_parts numbers_parts bounds_parts) shape_parts (same rank) (passes_both (skip_bounds rank) (skip_bounds rank) (counted_within number_at rank) (counted_within signed_at rank) numbers_parts bounds_parts (bounds_passes number_at number_parts number_passes rank) (bounds_passes signed_at signed_parts signed_passes rank)) b bad)

  -- ---- leaves

  modifiers_passes : Passes (skip_modifiers counts) modifiers_at modifiers_parts
  unfolding skip_modifiers
  modifiers_passes b bad = refl

  prefixes_passes : Passes (skip_prefixes counts) prefixes_at prefixes_parts
  unfolding skip_prefixes
  prefixes_passes b bad = refl

  abbrev named_parts : Bool → List Part
  named_parts is_value = []

  named_passes : Passes skip_named named_at named_parts
  unfolding skip_named named_at
  named_passes [] bad = refl
  named_passes (c ∷ b) bad =
      passed_cond named_parts bad (eqb c 0x11) (Some (b, bad)) _ (Some (true, b)) _ (nothing_noted b bad)
      (passed_cond named_parts bad (eqb c 0x12) (Some (b, bad)) None (Some (false, b)) None (nothing_noted b bad) refl)

  -- ---- a code, or another value

  void_passes : {A : Type 0} (other : Skip) (r : Reader A) (parts : A → List Part) → Passes other r parts → Passes (skip_void_or other) (void_or r) (void_parts parts)
  unfolding skip_void_or void_or
  void_passes other r parts passes [] bad = refl
  void_passes other r parts passes (c ∷ b) bad =
      passed_cond (void_parts parts) bad (eqb c 0x01) (Some (b, bad)) _ (Some (None, b)) _ (nothing_noted b bad)
      (passes (c ∷ b) bad ∙ passed_change (λ x. Some x) parts (void_parts parts) (λ x bad. refl) bad (r (c ∷ b)))

  passes_behind : {A : Type 0} (n : ℕ) (inner other : Skip) (r q : Reader A) (parts : A → List Part) → Passes inner r parts → Passes other q parts → Passes (skip_behind n inner other) (behind n r q) parts
  passes_behind n inner other r q parts one two [] bad = refl
  passes_behind n inner other r q parts one two (c ∷ b) bad =
      passed_cond parts bad (eqb c n) (inner (b, bad)) (other (c ∷ b, bad)) (r b) (q (c ∷ b)) (one b bad) (two (c ∷ b) bad)

  passes_nothing : {A : Type 0} (parts : A → List Part) → Passes skip_nothing (fail {A = A}) parts
  passes_nothing parts b bad = refl

  passes_deep : {A : Type 0} (d : ℕ) (inner : Skip) (r : Reader A) (parts : A → List Part) → Passes inner r parts → Passes (skip_deep d inner) (deep d r) parts
  passes_deep zero inner r parts passes b bad = refl
  passes_deep (suc d) inner r parts passes b bad = passes b bad

  -- ---- if cores pass

  module _ (s : Skip) (nested : Reader Core) (cores : Passes s nested core_parts) where
    typed_passes : Passes (skip_typed counts s) (typed_at nested) typed_parts
    unfolding skip_typed typed_at
    typed_passes =
        passes_change (λ here. option_and_then s (skip_modifiers counts here)) (λ x. typed x.0 x.1) (both modifiers_at nested) (pair_parts modifiers_parts core_parts) typed_parts (λ x bad. refl) (passes_both (skip_modifiers counts) s modifiers_at nested modifiers_parts core_parts modifiers_passes cores)

    abbrev target_parts : List Modifier × Option Core → List Part
    target_parts x = modifiers_parts x.0 ++ void_parts core_parts x.1

    target_passes : Passes (skip_target counts s) (target_at nested) target_parts
    unfolding skip_target target_at
    target_passes =
        passes_both (skip_modifiers counts) (skip_void_or s) modifiers_at (void_or nested) modifiers_parts (void_parts core_parts) modifiers_passes (void_passes s nested core_parts cores)

    pointer_same : Same target_parts (λ x. core_parts (pointer_to x))
    pointer_same (modifiers, None) bad = refl
    pointer_same (modifiers, Some to) bad = refl

    abbrev instance_parts : (Bool × Token) × List Typed → List Part
    instance_parts x = (named_parts x.0.0 ++ index_parts x.0.1) ++ list_parts typed_parts x.1

    instance_passes : Passes (skip_instance counts s) (instance_at nested) instance_parts
    unfolding skip_instance instance_at
    instance_passes b bad = reordered (skip_named (b, bad)) ∙ whole b bad
      where
        args : Passes (skip_counted (skip_typed counts s)) (counted_at (typed_at nested)) (list_parts typed_parts)
        args = counted_passes (skip_typed counts s) (typed_at nested) typed_parts typed_passes

        name : Passes (λ here. option_and_then (skip_index counts) (skip_named here)) (both named_at index_at) (pair_parts named_parts index_parts)
        name = passes_both skip_named (skip_index counts) named_at index_at named_parts index_parts named_passes (index_passes counts)

        whole : Passes (λ here. option_and_then (skip_counted (skip_typed counts s)) (option_and_then (skip_index counts) (skip_named here))) (both (both named_at index_at) (counted_at (typed_at nested))) instance_parts
        whole = passes_both (λ here. option_and_then (skip_index counts) (skip_named here)) (skip_counted (skip_typed counts s)) (both named_at index_at) (counted_at (typed_at nested)) (pair_parts named_parts index_parts) (list_parts typed_parts) name args

        reordered : (o : Option Left) → option_and_then (λ t. option_and_then (skip_counted (skip_typed counts s)) (skip_index counts t)) o ≡ option_and_then (skip_counted (skip_typed counts s)) (option_and_then (skip_index counts) o)
        reordered None = refl
        reordered (Some t) = refl

    instance_same : Same instance_parts (λ x. core_parts (instance_from x))
    instance_same x bad = ap (λ (ps : List Part). noted_parts counts bad (index_parts x.0.1 ++ ps)) (parts-types_from x.1)

    abbrev array_parts : Typed × ArrayShape → List Part
    array_parts x = typed_parts x.0 ++ shape_parts x.1

    array_passes : Passes (λ here. option_and_then skip_shape (skip_typed counts s here)) (array_at nested) array_parts
    unfolding array_at
    array_passes = passes_both (skip_typed counts s) skip_shape (typed_at nested) shape_at typed_parts shape_parts typed_passes shape_passes

    content_passes : Passes (skip_content counts s) (content_at nested) content_parts
    unfolding skip_content content_at typed_at
    content_passes [] bad = refl
    content_passes (c ∷ b) bad =
        passed_cond content_parts bad (eqb c 0x16) (Some (b, bad)) _ (Some (typed_ref, b)) _ (nothing_noted b bad) (passed_cond content_parts bad (eqb c 0x10) (skip_typed counts s (b, bad)) (s (c ∷ b, bad)) _ _ (referred b bad) (cores (c ∷ b) bad ∙ passed_change plain core_parts content_parts (λ x bad. refl) bad (nested (c ∷ b))))
      where
        referred : Passes (skip_typed counts s) (change (λ x. by_ref x.0 x.1) (both modifiers_at nested)) content_parts
        referred b bad =
            typed_passes b bad ∙ sym (passed_change (λ (x : List Modifier × Core). typed x.0 x.1) (pair_parts modifiers_parts core_parts) typed_parts (λ x bad. refl) bad (both modifiers_at nested b)) ∙ passed_change (λ (x : List Modifier × Core). by_ref x.0 x.1) (pair_parts modifiers_parts core_parts) content_parts (λ x bad. refl) bad (both modifiers_at nested b)

    slot_passes : Passes (skip_slot counts s) (slot_at nested) slot_parts
    unfolding skip_slot slot_at
    slot_passes =
        passes_change (λ here. option_and_then (skip_content counts s) (skip_modifiers counts here)) (λ x. slot x.0 x.1) (both modifiers_at (content_at nested)) (pair_parts modifiers_parts content_parts) slot_parts (λ x bad. refl) (passes_both (skip_modifiers counts) (skip_content counts s) modifiers_at (content_at nested) modifiers_parts content_parts modifiers_passes content_passes)

    abbrev result_parts : List Modifier × Option Content → List Part
    result_parts x = modifiers_parts x.0 ++ void_parts content_parts x.1

    ret_same : Same result_parts (λ x. ret_parts (ret_from x))
    ret_same (modifiers, None) bad = refl
    ret_same (modifiers, Some content) bad = refl

    ret_passes : Passes (skip_ret counts s) (ret_at nested) ret_parts
    unfolding skip_ret ret_at
    ret_passes =
        passes_change (λ here. option_and_then (skip_void_or (skip_content counts s)) (skip_modifiers counts here)) ret_from (both modifiers_at (void_or (content_at nested))) result_parts ret_parts ret_same (passes_both (skip_modifiers counts) (skip_void_or (skip_content counts s)) modifiers_at (void_or (content_at nested)) modifiers_parts (void_parts content_parts) modifiers_passes (void_passes (skip_content counts s) (content_at nested) content_parts content_passes))

    -- ---- methods

    abbrev params_parts : List Slot × Option ℕ → List Part
    params_parts p = slots_parts (slots_from p.0) p.1

    -- SENTINEL adds no token
    tokens_any : (ss : Slots) (sentinel : Option ℕ) → flat_map part_tokens (slots_parts ss sentinel) ≡ flat_map part_tokens (slots_parts ss None)
    tokens_any no_slots None = refl
    tokens_any no_slots (Some k) = refl
    tokens_any (slot_then x ss) None = refl
    tokens_any (slot_then x ss) (Some zero) = refl
    tokens_any (slot_then x ss) (Some (suc k)) =
        flat_map-append part_tokens (slot_parts x) (slots_parts ss (Some k)) ∙ ap (λ (ts : List Token). flat_map part_tokens (slot_parts x) ++ ts) (tokens_any ss (Some k)) ∙ sym (flat_map-append part_tokens (slot_parts x) (slots_parts ss None))

    -- a parameter, and the parameters after it
    noted_params : (bad : Option Token) (x : Slot) (ss : Slots) (sentinel behind : Option ℕ) → noted_parts counts (noted_parts counts bad (slot_parts x)) (slots_parts ss behind) ≡ noted_parts counts bad (slots_parts (slot_then x ss) sentinel)
    noted_params bad x ss sentinel behind =
        ap (λ (ts : List Token). noted counts (noted_parts counts bad (slot_parts x)) ts) (tokens_any ss behind) ∙ sym (noted_parts-append counts bad (slot_parts x) (slots_parts ss None)) ∙ ap (λ (ts : List Token). noted counts bad ts) (sym (tokens_any (slot_then x ss) sentinel))

    params_passes : (n : ℕ) (allowed : Bool) → Passes (skip_params counts s allowed n) (params_at nested allowed n) params_parts
    unfolding skip_params params_at
    params_passes zero allowed b bad = nothing_noted b bad
    params_passes (suc n) allowed b bad = of_mark (allowed && head_is 0x41 b) _ _ (one false (λ k. Some 0) (drop 1 b) (params_passes n false)) (one allowed (λ k. option_map suc k) b (params_passes n allowed))
      where
        of_slot : (stands : Bool) (mark : Option ℕ → Option ℕ) (o : Option (Slot × List ℕ)) → Passes (skip_params counts s stands n) (params_at nested stands n) params_parts → option_and_then (skip_params counts s stands n) (passed counts bad slot_parts o) ≡ passed {A = List Slot × Option ℕ} counts bad params_parts (option_and_then (λ x. option_map (λ y. ((x.0 ∷ y.0.0, mark y.0.1), y.1)) (params_at nested stands n x.1)) o)
        of_slot stands mark None more = refl
        of_slot stands mark (Some x) more = more x.1 (noted_parts counts bad (slot_parts x.0)) ∙ passed_map (λ p. (x.0 ∷ p.0, mark p.1)) params_parts params_parts _ bad (λ p. noted_params bad x.0 (slots_from p.0) (mark p.1) p.1) (params_at nested stands n x.1)

        one : (stands : Bool) (mark : Option ℕ → Option ℕ) (c : List ℕ) → Passes (skip_params counts s stands n) (params_at nested stands n) params_parts → option_and_then (skip_params counts s stands n) (skip_slot counts s (c, bad)) ≡ passed {A = List Slot × Option ℕ} counts bad params_parts (option_and_then (λ x. option_map (λ y. ((x.0 ∷ y.0.0, mark y.0.1), y.1)) (params_at nested stands n x.1)) (slot_at nested c))
        one stands mark c more = ap (λ (o : Option Left). option_and_then (skip_params counts s stands n) o) (slot_passes c bad) ∙ of_slot stands mark (slot_at nested c) more

        stays : (p : Bool) → (p && not false) ≡ p
        stays true = refl
        stays false = refl

        ends : (p : Bool) → (p && not true) ≡ false
        ends true = refl
        ends false = refl

        of_mark : (p : Bool) (u v : Option ((List Slot × Option ℕ) × List ℕ)) → option_and_then (skip_params counts s false n) (skip_slot counts s (drop 1 b, bad)) ≡ passed counts bad params_parts u → option_and_then (skip_params counts s allowed n) (skip_slot counts s (b, bad)) ≡ passed counts bad params_parts v → option_and_then (skip_params counts s (allowed && not p) n) (skip_slot counts s (behind_mark p (b, bad))) ≡ passed counts bad params_parts (cond p u v)
        of_mark true u v e f = rw (ends allowed) e
        of_mark false u v e f = rw (stays allowed) f

    generic_passes : (generic : Bool) → Passes (skip_generic generic) (generic_at generic) generic_parts
    unfolding skip_generic generic_at
    generic_passes true b bad = number_passes b bad ∙ passed_change (λ (n : ℕ). Some n) number_parts generic_parts (λ x bad. refl) bad (number_at b)
    generic_passes false b bad = nothing_noted b bad

    module _ (allowed : Bool) (kind : ℕ) (this explicit : Bool) (bad : Option Token) where
      abbrev method_with : Option ℕ → Ret → (List Slot × Option ℕ) × List ℕ → Method × List ℕ
      method_with generic ret p = (method kind this explicit generic ret (slots_from p.0.0) p.0.1, p.1)

      abbrev after_count : Option ℕ → ℕ → List ℕ → Option (Method × List ℕ)
      after_count generic n b = option_and_then (λ r. option_map (method_with generic r.0) (params_at nested allowed n r.1)) (ret_at nested b)

      of_params : (generic : Option ℕ) (ret : Ret) (o : Option ((List Slot × Option ℕ) × List ℕ)) → passed counts (noted_parts counts (noted_parts counts bad (generic_parts generic)) (ret_parts ret)) params_parts o ≡ passed counts bad method_parts (option_map (method_with generic ret) o)
      of_params generic ret o =
          passed_map (λ p. method kind this explicit generic ret (slots_from p.0) p.1) params_parts method_parts _ bad
          (λ p. sym (noted_parts-append counts bad (generic_parts generic) (number (count_slots (slots_from p.0)) ∷ (ret_parts ret ++ params_parts p))
          ∙ noted_parts-append counts (noted_parts counts bad (generic_parts generic)) (ret_parts ret) (params_parts p))) o

      of_ret : (generic : Option ℕ) (n : ℕ) (o : Option (Ret × List ℕ)) → option_and_then (skip_params counts s allowed n) (passed counts (noted_parts counts bad (generic_parts generic)) ret_parts o) ≡ passed counts bad method_parts (option_and_then (λ r. option_map (method_with generic r.0) (params_at nested allowed n r.1)) o)
      of_ret generic n None = refl
      of_ret generic n (Some r) = params_passes n allowed r.1 (noted_parts counts (noted_parts counts bad (generic_parts generic)) (ret_parts r.0)) ∙ of_params generic r.0 (params_at nested allowed n r.1)

      of_count : (generic : Option ℕ) (o : Option (ℕ × List ℕ)) → option_and_then (λ (x : ℕ × Left). option_and_then (skip_params counts s allowed x.0) (skip_ret counts s x.1)) (option_map (with_bad (noted_parts counts bad (generic_parts generic))) o) ≡ passed counts bad method_parts (option_and_then (λ (n : ℕ × List ℕ). after_count generic n.0 n.1) o)
      of_count generic None = refl
      of_count generic (Some n) =
          ap (λ (o : Option Left). option_and_then (skip_params counts s allowed n.0) o) (ret_passes n.1 (noted_parts counts bad (generic_parts generic))) ∙ of_ret generic n.0 (ret_at nested n.1)

      of_generic : (o : Option (Option ℕ × List ℕ)) → option_and_then (skip_call counts s allowed) (passed counts bad generic_parts o) ≡ passed counts bad method_parts (option_and_then (λ (g : Option ℕ × List ℕ). option_and_then (λ (n : ℕ × List ℕ). after_count g.0 n.0 n.1) (number_at g.1)) o)
      unfolding skip_call number_left
      of_generic None = refl
      of_generic (Some g) = of_count g.0 (number_at g.1)

    whole : (generic allowed : Bool) (kind : ℕ) (this explicit : Bool) (b : List ℕ) (bad : Option Token) → option_and_then (skip_call counts s allowed) (skip_generic generic (b, bad)) ≡ passed counts bad method_parts (option_and_then (λ (g : Option ℕ × List ℕ). option_and_then (λ (n : ℕ × List ℕ). after_count allowed kind this explicit bad g.0 n.0 n.1) (number_at g.1)) (generic_at generic b))
    whole generic allowed kind this explicit b bad = ap (λ (o : Option Left). option_and_then (skip_call counts s allowed) o) (generic_passes generic b bad) ∙ of_generic allowed kind this explicit bad (generic_at generic b)

    pub method_passes : (own : Bool) → Passes (skip_method counts own s) (method_at own nested) method_parts
    unfolding skip_method method_at method_from
    method_passes own [] bad = refl
    method_passes own (c ∷ b) bad =
        passed_cond method_parts bad (is_method_code c) _ None _ None (whole (eqb (c / 16 % 2) 1) (own && takes_sentinel (c % 16)) (c % 16) (eqb (c / 32 % 2) 1) (eqb (c / 64 % 2) 1) b bad) refl

    pub local_passes : Passes (skip_local counts s) (local_at nested) local_parts
    unfolding skip_local local_at
    local_passes =
        passes_change (λ here. option_and_then (skip_content counts s) (skip_prefixes counts here)) local_from (both prefixes_at (content_at nested)) (pair_parts prefixes_parts content_parts) local_parts (λ x bad. refl) (passes_both (skip_prefixes counts) (skip_content counts s) prefixes_at (content_at nested) prefixes_parts content_parts prefixes_passes content_passes)

    -- ---- cores

    made : {A : Type 0} (skip : Skip) (f : A → Core) (r : Reader A) (parts : A → List Part) → Same parts (λ x. core_parts (f x)) → Passes skip r parts → Passes skip (change f r) core_parts
    made skip f r parts same passes = passes_change skip f r parts core_parts same passes

    by_passes : (d c : ℕ) → Passes (skip_by counts d s c) (core_by d nested c) core_parts
    unfolding skip_by core_by
    by_passes d c b bad =
        passed_cond core_parts bad (eqb c 0x0F) _ _ _ _ (passes_deep d (skip_target counts s) (change pointer_to (target_at nested)) core_parts (made (skip_target counts s) pointer_to (target_at nested) target_parts pointer_same target_passes) b bad)
        (passed_cond core_parts bad (eqb c 0x11) _ _ _ _ (made (skip_index counts) value index_at index_parts (λ x bad. refl) (index_passes counts) b bad)
        (passed_cond core_parts bad (eqb c 0x12) _ _ _ _ (made (skip_index counts) class index_at index_parts (λ x bad. refl) (index_passes counts) b bad)
        (passed_cond core_parts bad (eqb c 0x13) _ _ _ _ (made skip_number var number_at number_parts (λ x bad. refl) number_passes b bad)
        (passed_cond core_parts bad (eqb c 0x14) _ _ _ _ (made (λ here. option_and_then skip_shape (skip_typed counts s here)) array_from (array_at nested) array_parts (λ x bad. refl) array_passes b bad)
        (passed_cond core_parts bad (eqb c 0x15) _ _ _ _ (made (skip_instance counts s) instance_from (instance_at nested) instance_parts instance_same instance_passes b bad)
        (passed_cond core_parts bad (eqb c 0x1B) _ _ _ _ (passes_deep d (skip_method counts true s) (change function (method_at true nested)) core_parts (made (skip_method counts true s) function (method_at true nested) method_parts (λ x bad. refl) (method_passes true)) b bad)
        (passed_cond core_parts bad (eqb c 0x1D) _ _ _ _ (made (skip_typed counts s) vector (typed_at nested) typed_parts (λ x bad. refl) typed_passes b bad)
        (passed_cond core_parts bad (eqb c 0x1E) _ _ _ _ (made skip_number mvar number_at number_parts (λ x bad. refl) number_passes b bad) refl))))))))

    pub or_passes : (d c : ℕ) (b : List ℕ) (bad : Option Token) (o : Option Element) → cond (is_some o) (Some (b, bad)) (skip_by counts d s c (b, bad)) ≡ passed counts bad core_parts (core_or d nested c o b)
    or_passes d c b bad None = by_passes d c b bad
    or_passes d c b bad (Some element) = nothing_noted b bad

    -- ---- whole signatures

    field_passes : Passes (skip_slot counts s) (change field (slot_at nested)) body_parts
    field_passes = passes_change (skip_slot counts s) field (slot_at nested) slot_parts body_parts (λ x bad. refl) slot_passes

    own_passes : (own : Bool) → Passes (skip_method counts own s) (method_or own nested) body_parts
    own_passes own = passes_change (skip_method counts own s) method_body (method_at own nested) method_parts body_parts (λ x bad. refl) (method_passes own)

    field_or_passes : Passes (skip_behind 0x06 (skip_slot counts s) (skip_method counts true s)) (field_or nested (method_or true nested)) body_parts
    field_or_passes = passes_behind 0x06 (skip_slot counts s) (skip_method counts true s) (change field (slot_at nested)) (method_or true nested) body_parts field_passes (own_passes true)

    property_passes : (this : Bool) → Passes (skip_headed (skip_slot counts s)) (change (property_from this) (headed_at (slot_at nested))) body_parts
    property_passes this = passes_change (skip_headed (skip_slot counts s)) (property_from this) (headed_at (slot_at nested)) (headed_parts slot_parts) body_parts (λ x bad. refl) (headed_passes (skip_slot counts s) (slot_at nested) slot_parts slot_passes)

    pub body_passes : (kind : SigKind) → Passes (skip_body counts kind s) (body_at kind nested) body_parts
    unfolding skip_body body_at
    body_passes column.Field = passes_behind 0x06 (skip_slot counts s) skip_nothing (change field (slot_at nested)) fail body_parts field_passes (passes_nothing body_parts)
    body_passes column.MethodDef = own_passes false
    body_passes column.MemberRef = field_or_passes
    body_passes column.StandAlone =
        passes_behind 0x07 (skip_counted (skip_local counts s)) (skip_behind 0x06 (skip_slot counts s) (skip_method counts true s)) (change locals (counted_at (local_at nested))) (field_or nested (method_or true nested)) body_parts (passes_change (skip_counted (skip_local counts s)) locals (counted_at (local_at nested)) (list_parts local_parts) body_parts (λ x bad. refl) (counted_passes (skip_local counts s) (local_at nested) local_parts local_passes)) field_or_passes
    body_passes column.Property =
        passes_behind 0x28 (skip_headed (skip_slot counts s)) (skip_behind 0x08 (skip_headed (skip_slot counts s)) skip_nothing) (change (property_from true) (headed_at (slot_at nested))) (property_or 0x08 false nested fail) body_parts (property_passes true) (passes_behind 0x08 (skip_headed (skip_slot counts s)) skip_nothing (change (property_from false) (headed_at (slot_at nested))) fail body_parts (property_passes false) (passes_nothing body_parts))
    body_passes column.TypeSpec = passes_change (skip_ret counts s) type_spec (ret_at nested) ret_parts body_parts (λ x bad. refl) ret_passes
    body_passes column.Instance =
        passes_behind 0x0A (skip_counted (skip_typed counts s)) skip_nothing (change instance_body (counted_at (typed_at nested))) fail body_parts (passes_change (skip_counted (skip_typed counts s)) instance_body (counted_at (typed_at nested)) (list_parts typed_parts) body_parts (λ x bad. refl) (counted_passes (skip_typed counts s) (typed_at nested) typed_parts typed_passes)) (passes_nothing body_parts)

pub core_passes : (counts : List ℕ) (d : ℕ) → Passes counts (skip_core counts d) (core_at d) core_parts
unfolding skip_core core_at
core_passes counts zero b bad = refl
core_passes counts (suc d) [] bad = refl
core_passes counts (suc d) (c ∷ b) bad = or_passes counts (skip_core counts d) (core_at d) (core_passes counts d) d c b bad (element_of c)
