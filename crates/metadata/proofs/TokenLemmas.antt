-- The tokens of a signature whose rows exist.
use Rattle.std.proofs.Common.{◌≡◌, ◌≤◌, ℕ, true, List, [], ◌∷◌, Some, None, slice_index, refl, inl, inr, arith}
use Rattle.std.proofs.lemmas.Bool.{cases_Bool}
use Rattle.std.proofs.lemmas.Bool.Decides.{nat_tests}
use Rattle.std.specs.List.{AllByRecursion}
use Rattle.table_schema.specs.Tables.{table_number}
use Rattle.table_schema.specs.declared.table.TableId.{TableId}
use Rattle.table_schema.specs.declared.token.Token.{Token}
use Rattle.sig_grammar.specs.Encodes.{has_row, first_bad}

module _ (count : TableId → ℕ) (counts : List ℕ) (counted : (table : TableId) → slice_index counts (table_number table) ≡ count table) where
  abbrev pub IsCounted : Token → Type 0
  IsCounted token = (1 ≤ token.row) × (token.row ≤ count token.table)

  there : (token : Token) → has_row counts token ≡ true → IsCounted token
  there token e = grind (arith, nat_tests, counted token.table)

  has : (token : Token) → IsCounted token → has_row counts token ≡ true
  has token is = grind (arith, nat_tests, counted token.table)

  -- each token has a row if and only if none is the first without one
  pub all_there : (tokens : List Token) → first_bad counts tokens ≡ None → AllByRecursion IsCounted tokens
  all_there [] e = tt
  all_there (token ∷ tokens) e = elim (cases_Bool (has_row counts token)) [
    | inl has_one ↦ (there token has_one, all_there tokens (rw has_one at e))
    | inr has_none ↦ absurd (let bad : first_bad counts (token ∷ tokens) ≡ Some token = rw has_none refl in cc)
  ]

  pub none_bad : (tokens : List Token) → AllByRecursion IsCounted tokens → first_bad counts tokens ≡ None
  none_bad [] all = refl
  none_bad (token ∷ tokens) all = rw (has token all.0) (none_bad tokens all.1)
