-- Each parameter has a name and flags, and each piece of a declaration has a text.
use Rattle.declarations.proofs.Prelude.{◌≡◌, ℕ, ◌<◌, ◌≤◌, ◌+◌, ◌-◌, ◌==◌, ◌↔◌, min, max, List, [], ◌∷◌, ◌++◌, inl, inr, Bool, false, Option, Some, None, slice_get, refl, ap, ◌∙◌, arith, codes, decimal, signed_decimal, cases_lt, eq-eqb, eqb-true, Param, cell_columns, Token, Cell, Number, Text, IsOfKind, HasRow, Metadata, cell_in, count_in, IsValid, Scopes, Member, name_text, IsRowNameBy, ArePiecesText, HasText, any_name, is_text, first_linked, leading_words, words_of, generics_text, IsDeclaredPiece, IsFlagsOf, IsGenerics, IsMarshalOf, IsNameOf, IsParamRow, IsParamText, after_space, arity_text, before_space, marshal_by, param_token, position_in, number_in, spaced}
use Rattle.reading.specs.KeyRows.{rows_that}
use Rattle.declarations.proofs.MarshalLemmas.{IsFirstThat, first_that}
use Rattle.table_schema.specs.declared.column.ColumnKind.TheVariants as kind
use Rattle.sig_text.specs.SignatureText.{Piece, word, number, signed, name, method_name, generic_params, param_flags, param_name}
use Rattle.navigation.specs.declared.links.Link.TheVariants as link
use Rattle.type_heads.specs.declared.flag_words.FlagTable.TheVariants as flag_table

is_number : (cell : Cell) → IsOfKind kind.U16 cell → cell ≡ Number (number_in cell)
is_number (Number value) of = refl
is_number _ of = absurd of

module _ (model : Metadata) (valid : IsValid model) (first past position : ℕ) where
  param_number : (row : ℕ) → HasRow model Param row → cell_in model Param row 1 ≡ Number (number_in (cell_in model Param row 1))
  unfolding cell_columns
  param_number row there = is_number (cell_in model Param row 1) (valid.cells Param row 1 there (omega arith)).of_kind

  param_flags_of : (row : ℕ) → HasRow model Param row → cell_in model Param row 0 ≡ Number (number_in (cell_in model Param row 0))
  unfolding cell_columns
  param_flags_of row there = is_number (cell_in model Param row 0) (valid.cells Param row 0 there (omega arith)).of_kind

  param_own : (row : ℕ) → HasRow model Param row → (own : List ℕ) × (cell_in model Param row 2 ≡ Text own)
  unfolding cell_columns
  param_own row there = is_text (cell_in model Param row 2) (valid.cells Param row 2 there (omega arith)).of_kind

  abbrev pub has_position : ℕ → Bool
  has_position row = position_in model row == position

  -- the first row with the position, among those from one on and before another that exist
  pub param_first : (from left : ℕ) → ((row : ℕ) → (HasRow model Param row × (first ≤ row) × (row < past)) ↔ ((from ≤ row) × (row < from + left)))
      → (row : Option ℕ) → IsFirstThat has_position from (from + left) row → IsParamRow model first past position row
  param_first from left same None none = λ row at.
      let within = (same row).0 (at.there, at.from, at.to) in
      let yes = eq-eqb (position_in model row) position (ap number_in at.sequence) in
      let no : (position_in model row == position) ≡ false = none row within.0 within.1 in
      absurd cc
  param_first from left same (Some row) is =
      let there = (same row).1 (is.0, is.1) in
      record {
        there = there.0;
        from = there.1;
        to = there.2;
        sequence = param_number row there.0 ∙ ap (λ (n : ℕ). Number n) (eqb-true (position_in model row) position is.2);
        before = λ earlier exists begin sequence. elim (cases_lt earlier row) [
          | inl less ↦
              let within = (same earlier).0 (exists, begin, omega (arith, less, there.2)) in
              let yes = eq-eqb (position_in model earlier) position (ap number_in sequence) in
              let no : (position_in model earlier == position) ≡ false = is.3 earlier within.0 less in
              absurd cc
          | inr least ↦ least
        ];
      }

  param_row : (row : Option ℕ) × IsParamRow model first past position row
  param_row =
      let from = max 1 first in
      let left = min past (count_in model Param + 1) - from in (
        slice_get (rows_that has_position from left) 0,
        param_first from left (λ row. (
          λ is. (omega (arith, is.0.0, is.1), omega (arith, is.0.0, is.0.1, is.1, is.2)),
          λ is. ((omega (arith, is.0), omega (arith, is.0, is.1)), omega (arith, is.0), omega (arith, is.0, is.1)),
        )) _ (first_that has_position from left),
      )

  name_in : (row : Option ℕ) → IsParamRow model first past position row → HasText (IsParamText IsNameOf model first past position)
  name_in None none = ([], (None, none, refl))
  name_in (Some row) at = let own = param_own row at.there in (spaced own.0, (Some row, at, (own.0, own.1, refl)))

  flags_in : (row : Option ℕ) → IsParamRow model first past position row → HasText (IsParamText IsFlagsOf model first past position)
  flags_in None none = ([], (None, none, refl))
  flags_in (Some row) at = (leading_words (number_in (cell_in model Param row 0)) (words_of flag_table.Param), (Some row, at, (number_in (cell_in model Param row 0), param_flags_of row at.there, refl)))

  marshal_of : (space : List ℕ → List ℕ) (row : Option ℕ) → IsParamRow model first past position row → HasText (IsParamText (IsMarshalOf space) model first past position)
  marshal_of space None none = ([], (None, none, refl))
  marshal_of space (Some row) at = (marshal_by space model (first_linked model link.Marshalling (param_token row)), (Some row, at, refl))

  pub marshal_exists : (space : List ℕ → List ℕ) → HasText (IsParamText (IsMarshalOf space) model first past position)
  marshal_exists space = let found = param_row in marshal_of space found.0 found.1

  pub name_exists : HasText (IsParamText IsNameOf model first past position)
  name_exists = let found = param_row in name_in found.0 found.1

  pub flags_exist : HasText (IsParamText IsFlagsOf model first past position)
  flags_exist = let found = param_row in flags_in found.0 found.1

-- ---- the pieces of a declaration

generics_exist : (scopes : Scopes) (model : Metadata) → IsValid model → (rows : List ℕ) (n : ℕ) → HasText (IsGenerics scopes model rows n)
generics_exist scopes model valid [] n = (arity_text n, refl)
generics_exist scopes model valid (row ∷ rows) n =
    let params = generics_text scopes model valid (row ∷ rows) in (codes "<" ++ (params.0 ++ codes ">"), (params.0, params.1, refl))

module _ (scopes : Scopes) (model : Metadata) (valid : IsValid model) (class : Token) (named : HasText (IsRowNameBy scopes model class)) (own : List ℕ) (first past : ℕ) (generics : List ℕ) where
  declared_piece : (piece : Piece) → HasText (IsDeclaredPiece scopes model class own first past generics piece)
  declared_piece method_name =
      let result = marshal_exists model valid first past 0 before_space in
      let member = named.0 ++ (codes "::" ++ name_text Member own) in
      (result.0 ++ member, (result.0, result.1, member, (named.0, named.1, refl), refl))
  declared_piece (generic_params n) = generics_exist scopes model valid generics n
  declared_piece (param_flags position) = flags_exist model valid first past position
  declared_piece (param_name position) =
      let marshal = marshal_exists model valid first past position after_space in
      let own = name_exists model valid first past position in
      (marshal.0 ++ own.0, (marshal.0, marshal.1, own.0, own.1, refl))
  declared_piece (word of) = (of, refl)
  declared_piece (number of) = (decimal of, refl)
  declared_piece (signed of) = (signed_decimal of, refl)
  declared_piece (name token) = any_name model valid scopes token

  pub declared_texts : (pieces : List Piece) → HasText (ArePiecesText (IsDeclaredPiece scopes model class own first past generics) pieces)
  declared_texts [] = ([], refl)
  declared_texts (piece ∷ pieces) =
      let one = declared_piece piece in
      let more = declared_texts pieces in
      (one.0 ++ more.0, (one.0, one.1, more.0, more.1, refl))
