-- The lists in the head of a type.
use Rattle.type_heads.proofs.Prelude.{◌≡◌, ◌∙◌, ◌+◌, ◌<◌, ◌≤◌, ◌==◌, ℕ, Bool, true, false, List, [], ◌∷◌, ◌++◌, Option, Some, None, add-one, ap, drop, drop-cons, get_or, length, map, refl, subst, sym, arith, drop_all, codes, WritesInCalls, cell_columns, cell_count, Token, Metadata, cell_in, Wrote, writes_append, writes_nothing, writes_once, KeyedRow, Link, reference_in, row_of, linked, table_of, leading_words, words_of, AreConstraints, AreListed, IsGenericParam, IsInHead, IsTypeName, IsTypeOf, enclosed, number_in, text_in, param_token}
use Rattle.std.proofs.lemmas.Bool.Decides.{nat_tests}
use Rattle.table_schema.specs.declared.table.TableId.TheVariants.{GenericParam}
use Rattle.metadata.specs.Valid.{IsValid}
use Rattle.full_names.specs.declared.limit.Scopes.{Scopes}
use Rattle.full_names.specs.declared.quoted.NameKind.TheVariants.{Identifier}
use Rattle.full_names.specs.Quoted.{name_text}
use Rattle.full_names.proofs.NameExists.{HasText, any_name}
use Rattle.navigation.specs.declared.links.Link.TheVariants as link_of
use Rattle.type_heads.specs.declared.flag_words.FlagTable.TheVariants as flags

-- each table that refers has a second cell
pub second_cell : (of : Link) → 1 < cell_count (table_of of)
unfolding cell_columns
second_cell link_of.Events = omega arith
second_cell _ = omega arith

-- ---- each row has a text

listed_texts : (is_text : ℕ → List ℕ → Type 0) → ((row : ℕ) → HasText (is_text row)) → (before : List ℕ) (rows : List ℕ) → HasText (AreListed is_text before rows)
listed_texts is_text has before [] = ([], refl)
listed_texts is_text has before (row ∷ rows) =
    let first = has row in
    let tail = listed_texts is_text has (codes ", ") rows in
    (before ++ (first.0 ++ tail.0), (first.0, first.1, tail.0, tail.1, refl))

module _ (scopes : Scopes) (model : Metadata) (valid : IsValid model) where
  type_name : (token : Option Token) → HasText (IsTypeName scopes model token)
  type_name None = ([], refl)
  type_name (Some token) = any_name model valid scopes token

  pub type_text : (of : Link) (row : ℕ) → HasText (IsTypeOf scopes model of row)
  type_text of row = type_name (reference_in (cell_in model (table_of of) row 1))

  pub param_text : (row : ℕ) → HasText (IsGenericParam scopes model row)
  param_text row =
      let rows = linked model link_of.Constraints (param_token row) in
      let types = listed_texts (IsTypeOf scopes model link_of.Constraints) (type_text link_of.Constraints) [] rows in
      let constraints = enclosed (codes "(") (codes ") ") rows types.0 in
      let words = leading_words (number_in (cell_in model GenericParam row 1)) (words_of flags.Generic) in
      let name = name_text Identifier (text_in (cell_in model GenericParam row 3)) in
      (words ++ (constraints ++ name), (constraints, (types.0, types.1, refl), refl))

-- each list of generic parameters has a text
pub generics_text : (scopes : Scopes) (model : Metadata) → IsValid model → (rows : List ℕ) → HasText (AreListed (IsInHead scopes model link_of.GenericParams) [] rows)
generics_text scopes model valid rows = listed_texts (IsInHead scopes model link_of.GenericParams) (param_text scopes model valid) [] rows

-- ---- rows one after another

module _ {W : Type 0} (took : W → List ℕ → W → Type 0) (is_text : ℕ → List ℕ → Type 0) (found : List KeyedRow) (i : ℕ) where
  -- the rows from this one on
  abbrev pub WroteFrom : List ℕ → W → W → Type 0
  WroteFrom before w v = Wrote took w (AreListed is_text before (map row_of (drop i found))) v

  pub none_left : (before : List ℕ) (w : W) → length found ≤ i → WroteFrom before w w
  none_left before w le =
      subst (λ (left : List KeyedRow). Wrote took w (AreListed is_text before (map row_of left)) w) (sym (drop_all i found le)) ([], refl, writes_nothing took w)

  pub passed_over : (before : List ℕ) (w : W) → ((row : ℕ) → HasText (is_text row)) → ((text : List ℕ) → took w text w) → WroteFrom before w w
  passed_over before w has reached =
      let text = listed_texts is_text has before (map row_of (drop i found)) in
      (text.0, text.1, writes_once took w text.0 w (reached text.0))

  pub one_more : (before : List ℕ) (w u v x : W) (d : KeyedRow) → i < length found → WritesInCalls took w before u → Wrote took u (is_text (get_or found i d).row) v
      → Wrote took v (AreListed is_text (codes ", ") (map row_of (drop (i + 1) found))) x → WroteFrom before w x
  one_more before w u v x d lt word first tail =
      let left : drop i found ≡ get_or found i d ∷ drop (i + 1) found = rw (add-one, drop-cons found i d) in
      subst (λ (rows : List KeyedRow). Wrote took w (AreListed is_text before (map row_of rows)) x) (sym left) (
        before ++ (first.0 ++ tail.0),
        (first.0, first.1, tail.0, tail.1, refl),
        writes_append took w before u (first.0 ++ tail.0) x word (writes_append took u first.0 v tail.0 x first.2 tail.2),
      )

-- ---- a list between two words

pub is_none : (n : ℕ) (test : Bool) → test ≡ (n == 0) → test ≡ true → n ≡ 0
is_none n test is holds = grind (arith, nat_tests)

pub is_some : (n : ℕ) (test : Bool) → test ≡ (n == 0) → test ≡ false → 0 < n
is_some n test is fails = grind (arith, nat_tests)

pub enclosed_some : (before after text : List ℕ) (found : List KeyedRow) → 0 < length found → enclosed before after (map row_of found) text ≡ before ++ (text ++ after)
enclosed_some before after text [] some = absurd (omega (arith, some))
enclosed_some before after text (row ∷ rows) some = refl

pub enclosed_none : (before after text : List ℕ) (found : List KeyedRow) → length found ≡ 0 → enclosed before after (map row_of found) text ≡ []
enclosed_none before after text [] none = refl
enclosed_none before after text (row ∷ rows) none = absurd (omega (arith, none))

pub listed_none : (is_text : ℕ → List ℕ → Type 0) (before : List ℕ) (found : List KeyedRow) → length found ≡ 0 → AreListed is_text before (map row_of found) []
listed_none is_text before [] none = refl
listed_none is_text before (row ∷ rows) none = absurd (omega (arith, none))

-- a link whose rows are no generic parameters
pub other_items : (scopes : Scopes) (model : Metadata) (of : Link) → (of ≡ link_of.GenericParams → ⊥) → (before rows out : List ℕ) → AreListed (IsTypeOf scopes model of) before rows out
    → AreListed (IsInHead scopes model of) before rows out
other_items scopes model link_of.GenericParams not before rows out are = absurd (not refl)
other_items scopes model _ not before rows out are = are

module _ {W : Type 0} (took : W → List ℕ → W → Type 0) (scopes : Scopes) (model : Metadata) where
  pub constraints_written : (found : List KeyedRow) (w u v x : W) → 0 < length found → WritesInCalls took w (codes "(") u
      → Wrote took u (AreListed (IsTypeOf scopes model link_of.Constraints) [] (map row_of found)) v → WritesInCalls took v (codes ") ") x
      → Wrote took w (AreConstraints scopes model (map row_of found)) x
  constraints_written found w u v x some begin types end = (
    codes "(" ++ (types.0 ++ codes ") "),
    (types.0, types.1, sym (enclosed_some (codes "(") (codes ") ") types.0 found some)),
    writes_append took w (codes "(") u (types.0 ++ codes ") ") x begin (writes_append took u types.0 v (codes ") ") x types.2 end),
  )

  pub param_written : (row bits : ℕ) (own rows : List ℕ) (w u v x : W) → rows ≡ linked model link_of.Constraints (param_token row)
      → bits ≡ number_in (cell_in model GenericParam row 1) → own ≡ text_in (cell_in model GenericParam row 3)
      → WritesInCalls took w (leading_words bits (words_of flags.Generic)) u → Wrote took u (AreConstraints scopes model rows) v → WritesInCalls took v (name_text Identifier own) x
      → Wrote took w (IsGenericParam scopes model row) x
  param_written row bits own rows w u v x rows_are bits_are own_is words constraints name =
      let first = leading_words bits (words_of flags.Generic) in
      let last = name_text Identifier own in (
        first ++ (constraints.0 ++ last),
        (
          constraints.0,
          subst (λ (r : List ℕ). AreConstraints scopes model r constraints.0) rows_are constraints.1,
          ap (λ (n : ℕ). leading_words n (words_of flags.Generic) ++ (constraints.0 ++ last)) bits_are
              ∙ ap (λ (t : List ℕ). leading_words (number_in (cell_in model GenericParam row 1)) (words_of flags.Generic) ++ (constraints.0 ++ name_text Identifier t)) own_is,
        ),
        writes_append took w first u (constraints.0 ++ last) x words (writes_append took u constraints.0 v last x constraints.2 name),
      )
