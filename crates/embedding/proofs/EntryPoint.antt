-- The entry point of a file, by the rows of another root.
use Rattle.embedding.proofs.Prelude.{◌≡◌, ℕ, ◌%◌, ◌/◌, ◌≤◌, ◌⊎◌, inl, inr, refl, ap, arith, cases_eq, cases_lt, TableId, MethodDef, File, IsEntryPoint}
use Rattle.std.proofs.lemmas.Grind.{not_there}
use Rattle.table_schema.specs.Tables.{table_number}
use Rattle.table_schema.specs.Tokens.{IsToken}
use Rattle.table_schema.specs.declared.token.Token.{Token}

-- the number is the token of one of these rows of a table
abbrev IsRowOf : ℕ → ℕ → ℕ → Type 0
IsRowOf entry number rows = (entry / 0x1000000 ≡ number) × (1 ≤ entry % 0x1000000) × (entry % 0x1000000 ≤ rows)

row_cases : (entry number rows : ℕ) → IsRowOf entry number rows ⊎ (¬ IsRowOf entry number rows)
row_cases entry number rows =
    elim (cases_eq (entry / 0x1000000) number) [
      | inl is ↦ elim (cases_lt 0 (entry % 0x1000000)) [
        | inl first ↦ elim (cases_lt rows (entry % 0x1000000)) [
          | inl past ↦ inr (λ row. absurd (omega arith))
          | inr last ↦ inl (is, omega arith, last)
        ]
        | inr none ↦ inr (λ row. absurd (omega arith))
      ]
      | inr not ↦ inr (λ row. not row.0)
    ]

row_at : (entry : ℕ) (count : TableId → ℕ) (token : Token) (table : TableId) → token.table ≡ table → IsToken entry token → 1 ≤ token.row
    → token.row ≤ count token.table → IsRowOf entry (table_number table) (count table)
row_at entry count token table same is first last =
    let number = ap table_number same in
    let rows = ap count same in
    (omega arith, omega arith, omega arith)

to_rows : (entry : ℕ) (count : TableId → ℕ) → IsEntryPoint entry count → (entry ≡ 0) ⊎ (IsRowOf entry 6 (count MethodDef) ⊎ IsRowOf entry 0x26 (count File))
to_rows entry count (inl none) = inl none
to_rows entry count (inr (token, is, inl table, first, last)) = inr (inl (row_at entry count token MethodDef table is first last))
to_rows entry count (inr (token, is, inr table, first, last)) = inr (inr (row_at entry count token File table is first last))

of_row : (entry : ℕ) (count : TableId → ℕ) (table : TableId) → (table ≡ MethodDef) ⊎ (table ≡ File) → IsRowOf entry (table_number table) (count table)
    → IsEntryPoint entry count
of_row entry count table which row =
    inr (record { table = table; row = entry % 0x1000000 }, record { row = omega arith; equal = omega arith }, which, row.1, row.2)

-- whether a number is an entry point can be tested, so it is enough to know that it is one
pub known_entry_point : (entry : ℕ) (count : TableId → ℕ) → ∥ IsEntryPoint entry count ∥₁ → IsEntryPoint entry count
known_entry_point entry count known =
    elim (cases_eq entry 0) [
      | inl none ↦ inl none
      | inr some ↦ elim (row_cases entry 6 (count MethodDef)) [
        | inl row ↦ of_row entry count MethodDef (inl refl) row
        | inr no_method ↦ elim (row_cases entry 0x26 (count File)) [
          | inl row ↦ of_row entry count File (inr refl) row
          | inr no_file ↦ absurd (not_there known (λ is. elim (to_rows entry count is) [
            | inl none ↦ some none
            | inr row ↦ elim row [ inl method ↦ no_method method | inr file ↦ no_file file ]
          ]))
        ]
      ]
    ]

-- an entry point is one if no row is lost
pub entry_point_kept : (entry : ℕ) (count more : TableId → ℕ) → count MethodDef ≤ more MethodDef → count File ≤ more File → IsEntryPoint entry count → IsEntryPoint entry more
entry_point_kept entry count more methods files (inl none) = inl none
entry_point_kept entry count more methods files (inr (token, is, inl table, first, last)) =
    inr (token, is, inl table, first, rw table (omega (arith, methods, rw table at last)))
entry_point_kept entry count more methods files (inr (token, is, inr table, first, last)) =
    inr (token, is, inr table, first, rw table (omega (arith, files, rw table at last)))
