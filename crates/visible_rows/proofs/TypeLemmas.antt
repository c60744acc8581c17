-- Types that enclose others, and how deep they are.
use Rattle.visible_rows.proofs.Prelude.{◌≡◌, ◌∙◌, ◌==◌, ◌&&◌, ◌||◌, ◌≤◌, ◌<◌, ◌+◌, ℕ, zero, suc, List, Bool, true, false, cond, ap, get_or, map, refl, arith, range_with_len, eqb-true, get_or-map-range_with_len, NestedClass, TypeDef, Metadata, cell_in, count_in, IsValid, row_in, access_in, is_open_nested, is_public_type, is_visible_type, is_visible_within, outer_among, outer_of}

module _ (model : Metadata) (valid : IsValid model) where
  -- the test of a row, and what is found by it
  by_test : (test : Bool) (nested enclosing class tail : ℕ) → (test ≡ true → nested ≡ class) → enclosing < nested → tail < class → cond test enclosing tail < class
  by_test true nested enclosing class tail same before less = let e = same refl in omega (arith, e, before)
  by_test false nested enclosing class tail same before less = less

  among_before : (class : ℕ) → 1 ≤ class → (first count : ℕ) → 1 ≤ first → first + count ≤ count_in model NestedClass + 1
      → outer_among model (range_with_len first count) class < class
  among_before class some first zero from within = omega (arith, some)
  among_before class some first (suc count) from within =
      let nested = row_in (cell_in model NestedClass first 0) in
      by_test (nested == class) nested (row_in (cell_in model NestedClass first 1)) class (outer_among model (range_with_len (first + 1) count) class)
      (λ is. eqb-true nested class is) (valid.linked.nested first from (omega (arith, within)))
      (among_before class some (first + 1) count (omega arith) (omega (arith, within)))

  -- a type comes after the one that encloses it
  pub outer_before : (class : ℕ) → 1 ≤ class → outer_of model class < class
  outer_before class some = among_before class some 1 (count_in model NestedClass) (omega arith) (omega arith)

  -- more depth than the row of a type changes nothing
  pub same_within : (depth more class : ℕ) → class ≤ depth → class ≤ more → is_visible_within model depth class ≡ is_visible_within model more class
  unfolding is_visible_within
  same_within zero zero class a b = refl
  same_within zero (suc more) zero a b = refl
  same_within zero (suc more) (suc before) a b = absurd (omega (arith, a))
  same_within (suc depth) zero zero a b = refl
  same_within (suc depth) zero (suc before) a b = absurd (omega (arith, b))
  same_within (suc depth) (suc more) zero a b = refl
  same_within (suc depth) (suc more) (suc before) a b =
      let outer = outer_of model (suc before) in
      let less = outer_before (suc before) (omega arith) in
      let access = access_in (cell_in model TypeDef (suc before) 0) in
      ap (λ (visible : Bool). is_public_type access || (is_open_nested access && visible)) (same_within depth more outer (omega (arith, less, a)) (omega (arith, less, b)))

  -- a type is visible by its access and by the type that encloses it
  pub visible_type : (class : ℕ) → 1 ≤ class
      → (is_public_type (access_in (cell_in model TypeDef class 0)) || (is_open_nested (access_in (cell_in model TypeDef class 0)) && is_visible_type model (outer_of model class)))
      ≡ is_visible_type model class
  unfolding is_visible_within
  visible_type zero some = absurd (omega (arith, some))
  visible_type (suc before) some =
      let outer = outer_of model (suc before) in
      let less = outer_before (suc before) some in
      let access = access_in (cell_in model TypeDef (suc before) 0) in
      ap (λ (visible : Bool). is_public_type access || (is_open_nested access && visible)) (same_within outer before outer (omega arith) (omega (arith, less)))

  -- the test of a type, by what is known of the rows before
  pub by_outer : (class access outer : ℕ) (earlier : List Bool) (known : Bool) → 1 ≤ class → access ≡ access_in (cell_in model TypeDef class 0) → outer ≡ outer_of model class
      → earlier ≡ map (is_visible_type model) (range_with_len 0 class) → known ≡ get_or earlier outer false
      → (is_public_type access || (is_open_nested access && known)) ≡ is_visible_type model class
  by_outer class access outer earlier known some flags is_outer are is_known =
      let before = outer_before class some in
      let at : get_or earlier outer false ≡ is_visible_type model outer =
      ap (λ (results : List Bool). get_or results outer false) are
      ∙ get_or-map-range_with_len (is_visible_type model) 0 class outer outer false (omega (arith, before, is_outer)) (omega arith) in
      (λ i. is_public_type (flags i) || (is_open_nested (flags i) && (is_known ∙ at ∙ ap (is_visible_type model) is_outer) i)) ∙ visible_type class some
