-- The first type index without a row, compared with the property of all indexes.
use Rattle.sig_grammar.proofs.Prelude.{◌≡◌, ℕ, ◌↔◌, true, false, ltb, leb, Some, None, List, [], ◌∷◌, ◌++◌, refl, ap, inl, inr, slice_index, AllByRecursion, and_parts, cases_Bool, ltb-true, leb-true, lt-ltb, le-leb, Token, HasRow, has_row, first_bad}
use Rattle.table_schema.specs.Tables.{table_number}

module _ (counts : List ℕ) where
  tested : (token : Token) → has_row counts token ≡ true → HasRow counts token
  tested token e =
      let two = and_parts (ltb 0 token.row) (leb token.row (slice_index counts (table_number token.table))) e in
      (ltb-true 0 token.row two.0, leb-true token.row (slice_index counts (table_number token.table)) two.1)

  tests : (token : Token) → HasRow counts token → has_row counts token ≡ true
  tests token has = rw (lt-ltb 0 token.row has.0) (le-leb token.row (slice_index counts (table_number token.table)) has.1)

  all_have : (tokens : List Token) → first_bad counts tokens ≡ None → AllByRecursion (HasRow counts) tokens
  all_have [] e = tt
  all_have (token ∷ tokens) e = elim (cases_Bool (has_row counts token)) [
    | inl has_one ↦ (tested token has_one, all_have tokens (rw has_one at e))
    | inr has_none ↦ absurd (let bad : first_bad counts (token ∷ tokens) ≡ Some token = rw has_none refl in cc)
  ]

  none_bad : (tokens : List Token) → AllByRecursion (HasRow counts) tokens → first_bad counts tokens ≡ None
  none_bad [] all = refl
  none_bad (token ∷ tokens) all = rw (tests token all.0) (none_bad tokens all.1)

pub none_is_all : (counts : List ℕ) (tokens : List Token) → (first_bad counts tokens ≡ None) ↔ AllByRecursion (HasRow counts) tokens
none_is_all counts tokens = (all_have counts tokens, none_bad counts tokens)

pub some_is_first : (counts : List ℕ) (tokens : List Token) (bad : Token) → first_bad counts tokens ≡ Some bad
    → (before behind : List Token) × (tokens ≡ before ++ bad ∷ behind) × AllByRecursion (HasRow counts) before × ¬ HasRow counts bad
some_is_first counts [] bad e = absurd cc
some_is_first counts (token ∷ tokens) bad e = elim (cases_Bool (has_row counts token)) [
  | inl has_one ↦
      let more = some_is_first counts tokens bad (rw has_one at e) in
      (token ∷ more.0, more.1, ap (λ (ts : List Token). token ∷ ts) more.2, (tested counts token has_one, more.3), more.4)
  | inr has_none ↦
      let found : Some token ≡ Some bad = rw has_none at e in
      let same : token ≡ bad = cc in
      ([], tokens, ap (λ (t : Token). t ∷ tokens) same, tt, λ has. let yes : has_row counts bad ≡ true = tests counts bad has in let no : has_row counts bad ≡ false = rw same at has_none in cc)
]
