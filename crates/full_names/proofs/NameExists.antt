-- Each token has a name.
use Rattle.std.proofs.Common.{◌≡◌, ℕ, zero, suc, ◌-◌, ◌<◌, ◌≤◌, Bool, true, false, List, [], ◌∷◌, ◌++◌, ◌⊎◌, inl, inr, Option, None, Some, refl, sym, ap, subst, ◌∙◌, arith}
use Rattle.full_names.proofs.Prelude.{⊤, codes, decimal, signed_decimal, cases_eq, cases_lt, TableId, TypeDef, TypeRef, TypeSpec, NestedClass, ModuleRef, AssemblyRef, Token, ColumnKind, cell_columns, cell_count, Body, Piece, word, number, signed, name, method_name, generic_params, param_flags, param_name, text_of, Cell, Text, Ref, IsOfKind, HasRow, IsKeyCell, Metadata, cell_in, count_in, IsValid, MayRefer, kind_at, nullable_at, IsEnclosed, IsFirstNesting, IsNesting, IsScope, type_token, Scopes, Omitted, Written, type_text, IsChainText, IsOuter, IsOwnText, IsTypeDefText, IsTypeRefText, IsScopeIn, IsScopeText, IsScopeWithin, IsTypeRefName, IsTypeScope, in_brackets, ArePiecesText, IsFullNameBy, IsInnerName, IsPieceText, IsTypeSpecText}
use Rattle.std.specs.Bool.{Decides}
use denote.Enum.Bare.{same_true, true_same}
use Rattle.table_schema.specs.contracts.table.TableId as tables
use Rattle.table_schema.specs.contracts.table.TableIdPartialEq.TheImpl as equal
use Rattle.table_schema.specs.declared.column.ColumnKind.TheVariants as kind
use Rattle.table_schema.specs.declared.column.SigKind.TheVariants as column
use Rattle.table_schema.specs.declared.coded.Coded.TheVariants as coded
use Rattle.metadata.specs.KeyOrder.{IsKeyOrdered, key_in}
use Rattle.full_names.proofs.PieceLemmas.{same_signature, signature_of}
use Rattle.full_names.proofs.PlainPieces.{ArePlain, IsPlain, text_is_plain}

-- some text has a property
abbrev pub HasText : (List ℕ → Type 0) → Type 0
HasText is_text = (text : List ℕ) × is_text text

-- ---- the first row with a property

abbrev pub IsFound : (ℕ → Type 0) → ℕ → ℕ → Type 0
IsFound has count row = ((1 ≤ row) × (row ≤ count)) × has row × ((earlier : ℕ) → 1 ≤ earlier → earlier < row → ¬ has earlier)

abbrev pub HasNone : (ℕ → Type 0) → ℕ → Type 0
HasNone has count = (row : ℕ) → 1 ≤ row → row ≤ count → ¬ has row

module _ (has : ℕ → Type 0) (decide : (row : ℕ) → has row ⊎ ¬ has row) where
  none_of_one_more : (count : ℕ) → HasNone has count → ¬ has (suc count) → HasNone has (suc count)
  none_of_one_more count none not row first last = elim (cases_eq row (suc count)) [
    | inl same ↦ λ is. not (subst has same is)
    | inr other ↦ none row first (omega (arith, last, other))
  ]

  pub first_row : (count : ℕ) → ((row : ℕ) × IsFound has count row) ⊎ HasNone has count
  first_row zero = inr (λ row first last is. absurd (omega (arith, first, last)))
  first_row (suc count) = elim (first_row count) [
    | inl found ↦ inl (found.0, ((found.1.0.0, omega (arith, found.1.0.1)), found.1.1, found.1.2))
    | inr none ↦ elim (decide (suc count)) [
      | inl is ↦ inl (suc count, ((omega arith, omega arith), is, λ earlier first before. none earlier first (omega (arith, before))))
      | inr not ↦ inr (none_of_one_more count none not)
    ]
  ]

-- ---- equal tables and tokens, or not

decided : {P : Type 0} (r : Bool) → Decides r P → P ⊎ ¬ P
decided true decides = inl (decides.0 refl)
decided false decides = inr (λ is. let yes = decides.1 is in absurd cc)

same_table : (a b : TableId) → (a ≡ b) ⊎ ¬ (a ≡ b)
same_table a b = decided (equal.eq-value.it a b) (λ h. same_true tables.the_type tt a b h, λ e. true_same tables.the_type a b e)

same_token : (a b : Token) → (a ≡ b) ⊎ ¬ (a ≡ b)
same_token a b = elim (same_table a.table b.table) [
  | inl table ↦ elim (cases_eq a.row b.row) [
    | inl row ↦ inl (ap (λ (t : TableId). record { table = t; row = a.row }) table ∙ ap (λ (n : ℕ). record { table = b.table; row = n }) row)
    | inr not ↦ inr (λ e. not (ap (λ (t : Token). t.row) e))
  ]
  | inr not ↦ inr (λ e. not (ap (λ (t : Token). t.table) e))
]

reference_in : Token → Cell → Token
reference_in other (Ref (Some token)) = token
reference_in other cell = other

refers_to : (token : Token) (cell : Cell) → (cell ≡ Ref (Some token)) ⊎ ¬ (cell ≡ Ref (Some token))
unfolding reference_in
refers_to token (Ref (Some other)) = elim (same_token other token) [
  | inl same ↦ inl (ap (λ (t : Token). Ref (Some t)) same)
  | inr not ↦ inr (λ e. not (ap (reference_in token) e))
]
refers_to token _ = inr (λ e. absurd cc)

-- the row of a table that a cell refers to, or none
refers_into : (table : TableId) (cell : Cell) → ((row : ℕ) × (cell ≡ Ref (Some (record { table = table; row = row })))) ⊎ ((row : ℕ) → ¬ (cell ≡ Ref (Some (record { table = table; row = row }))))
unfolding reference_in
refers_into table (Ref (Some token)) = elim (same_table token.table table) [
  | inl same ↦ inl (token.row, ap (λ (t : TableId). Ref (Some (record { table = t; row = token.row }))) same)
  | inr not ↦ inr (λ row e. not (ap (λ (c : Cell). (reference_in token c).table) e))
]
refers_into table _ = inr (λ row e. absurd cc)

has_row : (model : Metadata) (table : TableId) (row : ℕ) → HasRow model table row ⊎ ¬ HasRow model table row
has_row model table row = elim (cases_lt row 1) [
  | inl none ↦ inr (λ there. let first = there.0 in absurd (omega (arith, none, first)))
  | inr first ↦ elim (cases_lt (count_in model table) row) [
    | inl past ↦ inr (λ there. let last = there.1 in absurd (omega (arith, past, last)))
    | inr last ↦ inl (first, last)
  ]
]

-- ---- whether the rows of NestedClass are in order, and what they enclose

falls_at : Metadata → ℕ → Type 0
falls_at model row = (2 ≤ row) × (key_in model NestedClass 0 row < key_in model NestedClass 0 (row - 1))

falls : (model : Metadata) (row : ℕ) → falls_at model row ⊎ ¬ falls_at model row
unfolding falls_at
falls model row = elim (cases_lt row 2) [
  | inl first ↦ inr (λ is. let second = is.0 in absurd (omega (arith, first, second)))
  | inr second ↦ elim (cases_lt (key_in model NestedClass 0 row) (key_in model NestedClass 0 (row - 1))) [
    | inl less ↦ inl (second, less)
    | inr least ↦ inr (λ is. let less = is.1 in absurd (omega (arith, less, least)))
  ]
]

key_cell : (cell_index : ℕ) → IsKeyCell NestedClass cell_index → cell_index ≡ 0
unfolding cell_columns
key_cell zero is = refl
key_cell (suc zero) is = let key = is.key in absurd cc
key_cell (suc (suc n)) is = let within = is.within in absurd (omega (arith, within))

zero_is_key : IsKeyCell NestedClass 0
unfolding cell_columns
zero_is_key = record { within = omega arith; key = refl }

ordered : (model : Metadata) → IsKeyOrdered model NestedClass ⊎ ¬ IsKeyOrdered model NestedClass
unfolding falls_at
ordered model = elim (first_row (falls_at model) (falls model) (count_in model NestedClass)) [
  | inl found ↦ inr (λ in_order. let less = found.1.1.1 in let rises = in_order 0 found.0 zero_is_key found.1.1.0 found.1.0.1 in absurd (omega (arith, less, rises)))
  | inr none ↦ inl (λ cell_index row key second last. elim (cases_lt (key_in model NestedClass cell_index row) (key_in model NestedClass cell_index (row - 1))) [
    | inl less ↦ absurd (none row (omega (arith, second)) last (second, subst (λ (k : ℕ). key_in model NestedClass k row < key_in model NestedClass k (row - 1)) (key_cell cell_index key) less))
    | inr rises ↦ rises
  ])
]

nests : (model : Metadata) (class row : ℕ) → IsNesting model class row ⊎ ¬ IsNesting model class row
nests model class row = elim (has_row model NestedClass row) [
  | inl there ↦ elim (refers_to (type_token class) (cell_in model NestedClass row 0)) [
    | inl is ↦ inl (there, is)
    | inr not ↦ inr (λ nesting. not nesting.1)
  ]
  | inr not ↦ inr (λ nesting. not nesting.0)
]

same_first : (model : Metadata) (class row other : ℕ) → IsFirstNesting model class row → IsFirstNesting model class other → row ≡ other
same_first model class row other one also =
    let low = one.first other also.nesting in
    let high = also.first row one.nesting in
    omega (arith, low, high)

enclosed : (model : Metadata) (class : ℕ) → ((outer : ℕ) × IsEnclosed model class outer) ⊎ ((outer : ℕ) → ¬ IsEnclosed model class outer)
enclosed model class = elim (first_row (IsNesting model class) (nests model class) (count_in model NestedClass)) [
  | inl found ↦
      let row = found.0 in
      let first : IsFirstNesting model class row = record {
        nesting = found.1.1;
        first = λ earlier is. elim (cases_lt earlier row) [
          | inl before ↦ absurd (found.1.2 earlier is.0.0 before is)
          | inr behind ↦ behind
        ];
      } in
      elim (refers_into TypeDef (cell_in model NestedClass row 1)) [
        | inl to ↦ inl (to.0, record { row = row; nesting = first; encloses = to.1 })
        | inr not ↦ inr (λ outer is. not outer (subst (λ (r : ℕ). cell_in model NestedClass r 1 ≡ Ref (Some (type_token outer))) (same_first model class is.row row is.nesting first) is.encloses))
      ]
  | inr none ↦ inr (λ outer is. none is.row is.nesting.nesting.0.0 is.nesting.nesting.0.1 is.nesting.nesting)
]

outside_def : (model : Metadata) (class : ℕ) → ((outer : ℕ) × IsOuter model class outer) ⊎ ((outer : ℕ) → ¬ IsOuter model class outer)
outside_def model class = elim (ordered model) [
  | inl in_order ↦ elim (enclosed model class) [
    | inl found ↦ inl (found.0, (in_order, found.1))
    | inr none ↦ inr (λ outer is. none outer is.1)
  ]
  | inr not ↦ inr (λ outer is. not is.0)
]

-- ---- the texts of rows

pub is_text : (cell : Cell) → IsOfKind kind.Text cell → (text : List ℕ) × (cell ≡ Text text)
is_text (Text text) of = (text, refl)
is_text _ of = absurd of

pub own_text : (model : Metadata) → IsValid model → (table : TableId) (row : ℕ) → HasRow model table row → 2 < cell_count table
    → kind_at table 1 ≡ kind.Text → kind_at table 2 ≡ kind.Text → HasText (IsOwnText model table row)
own_text model valid table row there cells of_name of_space =
    let text : (cell : ℕ) → cell < cell_count table → kind_at table cell ≡ kind.Text → (text : List ℕ) × (cell_in model table row cell ≡ Text text) =
    λ cell within of. is_text (cell_in model table row cell) (subst (λ (k : ColumnKind). IsOfKind k (cell_in model table row cell)) of (valid.cells table row cell there within).of_kind) in
    let own = text 1 (omega (arith, cells)) of_name in
    let space = text 2 cells of_space in
    (type_text space.0 own.0, (space.0, own.0, space.1, own.1, refl))

module _ (is_outside : ℕ → ℕ → Type 0) (is_own : ℕ → List ℕ → Type 0) (is_row : ℕ → Type 0)
    (outside : (row : ℕ) → ((outer : ℕ) × is_outside row outer) ⊎ ((outer : ℕ) → ¬ is_outside row outer))
    (stays : (row outer : ℕ) → is_row row → is_outside row outer → is_row outer)
    (own : (row : ℕ) → is_row row → HasText (is_own row)) where
  chain : (depth row : ℕ) → is_row row → HasText (IsChainText is_outside is_own depth row)
  unfolding IsChainText
  chain zero row there = (codes "..", refl)
  chain (suc depth) row there =
      let last = own row there in
      elim (outside row) [
        | inl found ↦
            let before = chain depth found.0 (stays row found.0 there found.1) in
            (before.0 ++ (codes "/" ++ last.0), inr (found.0, found.1, before.0, before.1, last.0, last.1, refl))
        | inr none ↦ (last.0, inl (none, last.1))
      ]

-- a reference that is not null is to a row that exists
exists_in : (model : Metadata) → IsValid model → (table : TableId) (row cell_index : ℕ) → HasRow model table row → cell_index < cell_count table
    → (token : Token) → cell_in model table row cell_index ≡ Ref (Some token) → HasRow model token.table token.row
exists_in model valid table row cell_index there within token is =
    let P : Cell → Type 0 = λ c. MayRefer model (nullable_at table cell_index) c in
    subst P is (valid.cells table row cell_index there within).refers

-- a reference is null, or to a row that exists
abbrev IsThere : Metadata → Option Token → Type 0
IsThere model None = ⊤
IsThere model (Some token) = HasRow model token.table token.row

reference_there : (model : Metadata) (nullable : Bool) (cell : Cell) → IsOfKind (kind.Coded coded.ResolutionScope) cell → MayRefer model nullable cell
    → (reference : Option Token) × (cell ≡ Ref reference) × IsThere model reference
reference_there model nullable (Ref None) of refers = (None, refl, tt)
reference_there model nullable (Ref (Some token)) of refers = (Some token, refl, refers)
reference_there model nullable _ of refers = absurd of

-- a scope has a text
scope_in : (model : Metadata) → IsValid model → (table : TableId) (row : ℕ) → HasRow model table row → HasText (IsScopeIn model table row)
unfolding cell_columns
scope_in model valid AssemblyRef row there =
    let own = is_text (cell_in model AssemblyRef row 6) (valid.cells AssemblyRef row 6 there (omega arith)).of_kind in (in_brackets (codes "[") own.0, (own.0, own.1, refl))
scope_in model valid ModuleRef row there =
    let own = is_text (cell_in model ModuleRef row 0) (valid.cells ModuleRef row 0 there (omega arith)).of_kind in (in_brackets (codes "[.module ") own.0, (own.0, own.1, refl))
scope_in model valid _ row there = ([], refl)

-- the text of a piece that a signature may have, if each token has a name
piece_text : (is_name : Token → List ℕ → Type 0) → ((token : Token) → HasText (is_name token)) → (piece : Piece) → IsPlain piece → HasText (IsPieceText is_name piece)
piece_text is_name named (word of) is = (of, refl)
piece_text is_name named (number of) is = (decimal of, refl)
piece_text is_name named (signed of) is = (signed_decimal of, refl)
piece_text is_name named (name token) is = named token
piece_text is_name named method_name is = absurd is
piece_text is_name named (generic_params n) is = absurd is
piece_text is_name named (param_flags position) is = absurd is
piece_text is_name named (param_name position) is = absurd is

pub pieces_text : (is_name : Token → List ℕ → Type 0) → ((token : Token) → HasText (is_name token)) → (pieces : List Piece) → ArePlain pieces → HasText (ArePiecesText (IsPieceText is_name) pieces)
pieces_text is_name named [] are = ([], refl)
pieces_text is_name named (piece ∷ pieces) are =
    let first = piece_text is_name named piece are.0 in
    let tail = pieces_text is_name named pieces are.1 in
    (first.0 ++ tail.0, (first.0, first.1, tail.0, tail.1, refl))

module _ (model : Metadata) (valid : IsValid model) where
  stays_def : (row outer : ℕ) → HasRow model TypeDef row → IsOuter model row outer → HasRow model TypeDef outer
  unfolding cell_columns
  stays_def row outer there is = exists_in model valid NestedClass is.1.row 1 is.1.nesting.nesting.0 (omega arith) (type_token outer) is.1.encloses

  stays_ref : (row outer : ℕ) → HasRow model TypeRef row → IsScope model row outer → HasRow model TypeRef outer
  unfolding cell_columns
  stays_ref row outer there is = exists_in model valid TypeRef row 0 there (omega arith) (record { table = TypeRef; row = outer }) is

  type_def_text : (row : ℕ) → HasRow model TypeDef row → HasText (IsTypeDefText model 64 row)
  unfolding cell_columns
  type_def_text = chain (IsOuter model) (IsOwnText model TypeDef) (HasRow model TypeDef) (outside_def model) stays_def (λ row there. own_text model valid TypeDef row there (omega arith) refl refl) 64

  type_ref_text : (row : ℕ) → HasRow model TypeRef row → HasText (IsTypeRefText model 64 row)
  unfolding cell_columns
  type_ref_text =
      chain (IsScope model) (IsOwnText model TypeRef) (HasRow model TypeRef) (λ row. refers_into TypeRef (cell_in model TypeRef row 0)) stays_ref (λ row there. own_text model valid TypeRef row there (omega arith) refl refl) 64

  -- the scope of a type of another module
  may_be : (row : ℕ) → HasRow model TypeRef row → (scope : Option Token) × (cell_in model TypeRef row 0 ≡ Ref scope) × IsThere model scope
  unfolding cell_columns
  may_be row there =
      let cell = valid.cells TypeRef row 0 there (omega arith) in
      reference_there model (nullable_at TypeRef 0) (cell_in model TypeRef row 0) cell.of_kind cell.refers

  scope_found : (depth row : ℕ) → HasRow model TypeRef row → (scope : Option Token) × IsScopeWithin model depth row scope × IsThere model scope
  scope_found zero row there = (None, refl, tt)
  scope_found (suc depth) row there = elim (refers_into TypeRef (cell_in model TypeRef row 0)) [
    | inl found ↦ let further = scope_found depth found.0 (stays_ref row found.0 there found.1) in (further.0, inr (found.0, found.1, further.1), further.2)
    | inr none ↦ let own = may_be row there in (own.0, inl (none, own.1), own.2)
  ]

  scope_text : (scope : Option Token) → IsThere model scope → HasText (IsScopeText model scope)
  scope_text None there = ([], refl)
  scope_text (Some scope) there = scope_in model valid scope.table scope.row there

  pub type_scope : (row : ℕ) → HasRow model TypeRef row → HasText (IsTypeScope model row)
  type_scope row there =
      let scope = scope_found 64 row there in
      let text = scope_text scope.0 scope.2 in (text.0, (scope.0, scope.1, text.1))

  type_ref_name : (scopes : Scopes) (row : ℕ) → HasRow model TypeRef row → HasText (IsTypeRefName scopes model row)
  type_ref_name Omitted row there = type_ref_text row there
  type_ref_name Written row there =
      let scope = type_scope row there in
      let own = type_ref_text row there in (scope.0 ++ own.0, (scope.0, scope.1, own.0, own.1, refl))

  pub inner_name : (scopes : Scopes) (token : Token) → HasText (IsInnerName scopes model token)
  inner_name scopes token = elim (has_row model token.table token.row) [
    | inr missing ↦ (codes "..", record { type_def = λ table there. absurd (missing there); type_ref = λ table there. absurd (missing there); other = λ not. refl })
    | inl there ↦ elim (same_table token.table TypeDef) [
      | inl def ↦
          let text = type_def_text token.row (subst (λ (t : TableId). HasRow model t token.row) def there) in
          (text.0, record { type_def = λ table row. text.1; type_ref = λ table row. let f : TypeDef ≡ TypeRef = sym def ∙ table in absurd cc; other = λ not. absurd (not (inl def, there)) })
      | inr not_def ↦ elim (same_table token.table TypeRef) [
        | inl ref ↦
            let text = type_ref_name scopes token.row (subst (λ (t : TableId). HasRow model t token.row) ref there) in
            (text.0, record { type_def = λ table row. absurd (not_def table); type_ref = λ table row. text.1; other = λ not. absurd (not (inr ref, there)) })
        | inr not_ref ↦ (codes "..", record { type_def = λ table row. absurd (not_def table); type_ref = λ table row. absurd (not_ref table); other = λ not. refl })
      ]
    ]
  ]

  type_spec_text : (scopes : Scopes) (signature : Body) → HasText (IsTypeSpecText scopes model signature)
  type_spec_text scopes signature = pieces_text (IsInnerName scopes model) (inner_name scopes) (text_of signature) (text_is_plain signature)

  pub any_name : (scopes : Scopes) (token : Token) → HasText (IsFullNameBy scopes model token)
  unfolding cell_columns
  any_name scopes token = elim (same_table token.table TypeSpec) [
    | inr not_spec ↦
        let text = inner_name scopes token in (
          text.0,
          record {
            type_def = text.1.type_def;
            type_ref = text.1.type_ref;
            type_spec = λ table there signature is. absurd (not_spec table);
            other = λ not spec. text.1.other not;
          },
        )
    | inl spec ↦ elim (has_row model token.table token.row) [
      | inr missing ↦ (
        codes "..",
        record {
          type_def = λ table there. absurd (missing there);
          type_ref = λ table there. absurd (missing there);
          type_spec = λ table there signature is. absurd (missing there);
          other = λ not none. refl;
        },
      )
      | inl there ↦
          let at : HasRow model TypeSpec token.row = subst (λ (t : TableId). HasRow model t token.row) spec there in
          let own = signature_of column.TypeSpec (cell_in model TypeSpec token.row 0) (valid.cells TypeSpec token.row 0 at (omega arith)).of_kind in
          let text = type_spec_text scopes own.0 in (
            text.0,
            record {
              type_def = λ table row. let f : TypeSpec ≡ TypeDef = sym spec ∙ table in absurd cc;
              type_ref = λ table row. let f : TypeSpec ≡ TypeRef = sym spec ∙ table in absurd cc;
              type_spec = λ table row signature is. subst (λ (s : Body). IsTypeSpecText scopes model s text.0) (same_signature own.0 signature (sym own.1 ∙ is)) text.1;
              other = λ not none. absurd (none (spec, there));
            },
          )
    ]
  ]
