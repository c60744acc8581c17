-- The marks of ignored columns.
use Rattle.comparison.proofs.Prelude.{◌≡◌, ◌≢◌, ◌∙◌, ◌<◌, ◌≤◌, ◌⊎◌, inl, inr, ℕ, zero, suc, ◌+◌, ◌*◌, true, false, lit≤, get_or, set, replicate, refl, ap, sym, arith, get_or-set_other, cases_eq, cases_lt, TableId, Module, cell_columns, cell_count, table_index_of, table_number, tables, IgnoredColumns, AreOthersSame, is_ignored, no_columns}

pub few_cells : (table : TableId) → cell_count table ≤ 9
unfolding cell_columns
few_cells Module = lit≤ tt
few_cells _ = lit≤ tt

module _ (stand : (table : TableId) → get_or tables (table_index_of table) Module ≡ table)
    (rise : (lower higher : TableId) → table_index_of lower < table_index_of higher → table_number lower < table_number higher) where
  one_table : (a b : TableId) → table_number a ≡ table_number b → a ≡ b
  one_table a b same =
      elim (cases_eq (table_index_of a) (table_index_of b)) [
        | inl at ↦ sym (stand a) ∙ ap (λ p. get_or tables p Module) at ∙ stand b
        | inr other ↦ elim (cases_lt (table_index_of a) (table_index_of b)) [
          | inl below ↦ let h = rise a b below in absurd (omega arith)
          | inr above ↦ let h = rise b a (omega arith) in absurd (omega arith)
        ]
      ]

  pub others_kept : (before : IgnoredColumns) (mark cell_index : ℕ) (table : TableId) → mark ≡ 9 * table_number table + cell_index
      → cell_index < cell_count table → AreOthersSame before (record { marks = set before.marks mark true }) table cell_index
  unfolding is_ignored
  others_kept before mark cell_index table is lt = λ other index within apart.
      let cells = few_cells table in
      let other_cells = few_cells other in
      get_or-set_other before.marks mark (9 * table_number other + index) true false (λ same.
      let first : table_number other ≡ table_number table = omega (arith, is, lt, cells, within, other_cells, same) in
      let second : index ≡ cell_index = omega (arith, is, lt, cells, within, other_cells, same) in
      apart_both other index (one_table other table first) second apart)
    where
      apart_both : (other : TableId) (index : ℕ) → other ≡ table → index ≡ cell_index → (other ≢ table) ⊎ (index ≢ cell_index) → ⊥
      apart_both other index one two (inl apart) = apart one
      apart_both other index one two (inr apart) = apart two

pub none_ignored : (table : TableId) (cell_index : ℕ) → is_ignored no_columns table cell_index ≡ false
unfolding is_ignored no_columns
none_ignored table cell_index = none (9 * table_number table + cell_index) 405
  where
    none : (i n : ℕ) → get_or (replicate n false) i false ≡ false
    none i zero = refl
    none zero (suc n) = refl
    none (suc i) (suc n) = none i n
