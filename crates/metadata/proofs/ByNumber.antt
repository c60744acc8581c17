-- A fact about each table, by its number, one table after another.
use Rattle.std.proofs.Common.{◌≡◌, ℕ, ◌+◌, ◌<◌, List, length, slice_index_or, slice_set, sym, ◌∙◌, ap, subst, inl, inr, arith}
use Rattle.std.proofs.lemmas.Grind.{get_or-set_at}
use Rattle.std.proofs.lemmas.List.{get_or-set_other}
use Rattle.table_schema.proofs.TableFacts.{table_at_index}
use Rattle.table_schema.proofs.TableOrder.{numbers_rise}
use Rattle.metadata.proofs.Prelude.{cases_eq, cases_lt, TableId, Module, table_index_of, table_number, tables, table_at}

-- tables with the same number are equal
pub one_number : (a b : TableId) → table_number a ≡ table_number b → a ≡ b
one_number a b same =
    elim (cases_eq (table_index_of a) (table_index_of b)) [
      | inl at ↦ sym (table_at_index a) ∙ ap table_at at ∙ table_at_index b
      | inr other ↦ elim (cases_lt (table_index_of a) (table_index_of b)) [
        | inl below ↦ let h = numbers_rise a b below in absurd (omega arith)
        | inr above ↦ let h = numbers_rise b a (omega arith) in absurd (omega arith)
      ]
    ]

-- the fact holds for the next table too
pub known_more : {X : Type 0} (P : X → TableId → Type 0) (d : X) (values : List X) (table_index number : ℕ) (here : TableId) (value : X)
    → here ≡ slice_index_or tables table_index Module → number ≡ table_number here → number < length values → P value here
    → ((table : TableId) → table_index_of table < table_index → P (slice_index_or values (table_number table) d) table)
    → (table : TableId) → table_index_of table < table_index + 1 → P (slice_index_or (slice_set values number value) (table_number table) d) table
known_more {X} P d values table_index number here value is_here is_number within known before table below =
    elim (cases_eq (table_number table) number) [
      | inl at ↦
          let same = one_number table here (at ∙ is_number) in
          let Q : TableId → Type 0 = λ t. P value t in
          rw (get_or-set_at values number (table_number table) value d at within) (subst Q (sym same) known)
      | inr other ↦
          let cell_index : table_index_of table < table_index = elim (cases_lt (table_index_of table) table_index) [
            | inl lower ↦ lower
            | inr here_or_past ↦ absurd (
                let at : table_index_of table ≡ table_index = omega arith in
                let same : here ≡ table = is_here ∙ ap table_at (sym at) ∙ table_at_index table in
                other (sym (is_number ∙ ap table_number same)))
          ] in
          rw (get_or-set_other values number (table_number table) value d other) (before table cell_index)
    ]
