-- The type or the module before the name of a member has a name.
use Rattle.declarations.proofs.Prelude.{All-cons, All-contains, All-nil, cell_columns, TableId, TypeDef, TypeRef, TypeSpec, MethodDef, MemberRef, ModuleRef, Token, Cell, IsOfKind, HasRow, Metadata, cell_in, IsValid, MayRefer, Scopes, Dotted, name_text, IsNameIn, IsParent, IsRowNameBy, IsFullNameBy, HasText, any_name, is_text, IsClassUnder, ◌≡◌, ℕ, List, [], ◌∷◌, Option, Some, None, false, refl, subst, arith, ⊤, All, Contains}
use Rattle.table_schema.specs.CodedIndexes.{tables_of}
use Rattle.table_schema.specs.declared.coded.Coded.TheVariants as coded
use Rattle.table_schema.specs.declared.column.ColumnKind.TheVariants as kind

module _ (scopes : Scopes) (model : Metadata) (valid : IsValid model) where
  -- the name of a type
  named_as : (token : Token) → ((text : List ℕ) → IsFullNameBy scopes model token text → IsNameIn scopes model token.table token.row text) → HasText (IsRowNameBy scopes model token)
  named_as token into =
      let any = any_name model valid scopes token in
      (any.0, record { there = λ _. into any.0 any.1; missing = λ not. any.1.other (λ named. not named.1) (λ spec. not spec.1) })

  pub type_named : (row : ℕ) → HasText (IsRowNameBy scopes model (record { table = TypeDef; row = row }))
  type_named row = named_as (record { table = TypeDef; row = row }) (λ text is. is)

  module_named : (row : ℕ) → HasRow model ModuleRef row → HasText (IsRowNameBy scopes model (record { table = ModuleRef; row = row }))
  unfolding cell_columns
  module_named row there =
      let own = is_text (cell_in model ModuleRef row 0) (valid.cells ModuleRef row 0 there (omega arith)).of_kind in
      (name_text Dotted own.0, record { there = λ _. (own.0, own.1, refl); missing = λ not. absurd (not there) })

  -- a row of one of the tables of parents that is no method has a name
  Named : Option TableId → Type 0
  Named None = ⊤
  Named (Some MethodDef) = ⊤
  Named (Some table) = (row : ℕ) → HasRow model table row → HasText (IsRowNameBy scopes model (record { table = table; row = row }))

  unfolded : (table : TableId) → (table ≡ MethodDef → ⊥) → Named (Some table) → (row : ℕ) → HasRow model table row → HasText (IsRowNameBy scopes model (record { table = table; row = row }))
  unfolding Named
  unfolded MethodDef not named = absurd (not refl)
  unfolded _ not named = named

  all_named : All Named (tables_of coded.MemberRefParent)
  unfolding Named
  all_named =
      All-cons Named (Some TypeDef) (Some TypeRef ∷ Some ModuleRef ∷ Some MethodDef ∷ Some TypeSpec ∷ []) (λ row there. type_named row)
      (All-cons Named (Some TypeRef) (Some ModuleRef ∷ Some MethodDef ∷ Some TypeSpec ∷ []) (λ row there. named_as (record { table = TypeRef; row = row }) (λ text is. is))
      (All-cons Named (Some ModuleRef) (Some MethodDef ∷ Some TypeSpec ∷ []) module_named
      (All-cons Named (Some MethodDef) (Some TypeSpec ∷ []) tt
      (All-cons Named (Some TypeSpec) [] (λ row there. named_as (record { table = TypeSpec; row = row }) (λ text is. is)) (All-nil Named)))))

  pub parent_named : (row : ℕ) (parent : Token) → HasRow model MemberRef row → IsParent model row parent → (parent.table ≡ MethodDef → ⊥) → HasText (IsRowNameBy scopes model parent)
  unfolding cell_columns
  parent_named row parent there is not =
      let cell = valid.cells MemberRef row 0 there (omega arith) in
      let exists : HasRow model parent.table parent.row = subst (λ (c : Cell). MayRefer model false c) is cell.refers in
      let listed : Contains (tables_of coded.MemberRefParent) (Some parent.table) = subst (λ (c : Cell). IsOfKind (kind.Coded coded.MemberRefParent) c) is cell.of_kind in
      unfolded parent.table not (All-contains Named (tables_of coded.MemberRefParent) (Some parent.table) all_named listed) parent.row exists

-- the parent itself, if it is no method
pub class_under : (model : Metadata) (table : TableId) (row : ℕ) → (table ≡ MethodDef → ⊥) → IsClassUnder model table row (record { table = table; row = row })
class_under model MethodDef row not = absurd (not refl)
class_under model _ row not = refl
