-- The types that enclose others, by one more row of NestedClass.
use Rattle.visible_rows.proofs.Prelude.{◌≡◌, ◌≢◌, ◌∙◌, ◌==◌, ◌≤◌, ◌<◌, ◌+◌, ◌-◌, ℕ, List, ◌∷◌, Bool, true, false, cond, ap, get_or, length, length-set, set, sym, arith, ⊎_elim, cases_eq, eq-eqb, get_or-set_other, get_or-set_same, NestedClass, Metadata, cell_in, row_in, outer_among}
use Rattle.std.proofs.lemmas.Bool.Decides.{eqb_tells}

-- each type's is that of the first of these rows
abbrev pub AreAmong : Metadata → List ℕ → List ℕ → Type 0
AreAmong model rows outers = (k : ℕ) → k < length outers → get_or outers k 0 ≡ outer_among model rows (k + 1)

module _ (model : Metadata) (rows outers : List ℕ) (row nested outer : ℕ) (is_nested : nested ≡ row_in (cell_in model NestedClass row 0)) (is_outer : outer ≡ row_in (cell_in model NestedClass row 1))
    (some : 1 ≤ nested) (are : AreAmong model rows outers) where
  abbrev choice : ℕ → Bool → ℕ
  choice class same = cond same (row_in (cell_in model NestedClass row 1)) (outer_among model rows class)

  here : (k : ℕ) → k < length outers → k ≡ nested - 1 → get_or (set outers (nested - 1) outer) k 0 ≡ outer_among model (row ∷ rows) (k + 1)
  here k within same =
      let test : (row_in (cell_in model NestedClass row 0) == k + 1) ≡ true = eq-eqb _ _ (omega (arith, is_nested, same, some)) in
      ap (λ j. get_or (set outers (nested - 1) outer) j 0) same ∙ get_or-set_same outers (nested - 1) outer 0 (omega (arith, within, same)) ∙ is_outer ∙ sym (ap (choice (k + 1)) test)

  other : (k : ℕ) → k < length outers → k ≢ nested - 1 → get_or (set outers (nested - 1) outer) k 0 ≡ outer_among model (row ∷ rows) (k + 1)
  other k within apart =
      let test : (row_in (cell_in model NestedClass row 0) == k + 1) ≡ false =
      ⊎_elim
      (λ it. absurd (apart (let e = it.1 in omega (arith, e, is_nested, some))))
      (λ it. it.0)
      (eqb_tells (row_in (cell_in model NestedClass row 0)) (k + 1)) in
      get_or-set_other outers (nested - 1) k outer 0 apart ∙ are k within ∙ sym (ap (choice (k + 1)) test)

  pub outers_more : AreAmong model (row ∷ rows) (set outers (nested - 1) outer)
  outers_more k within =
      let old : k < length outers = omega (arith, within, length-set outers (nested - 1) outer) in
      ⊎_elim (here k old) (other k old) (cases_eq k (nested - 1))
