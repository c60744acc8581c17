-- The name of a row, from that of its table.
use Rattle.std.proofs.Common.{◌≡◌, ℕ, ◌≤◌, false, List, Option, None, refl, subst, sym, arith}
use Rattle.full_names.proofs.Prelude.{TableId, TypeDef, TypeRef, TypeSpec, Field, MethodDef, Event, Property, MemberRef, ModuleRef, AssemblyRef, File, ExportedType, GenericParam, codes, Token, cell_columns, Cell, Ref, HasRow, Metadata, cell_in, count_in, IsValid, MayRefer, Scopes, IsMemberOf, IsNameIn, IsNameUnder, IsPlainName, IsRowNameBy, IsMemberName}

-- a row of a table that is none of these has a plain name
pub plain_name : (scopes : Scopes) (model : Metadata) (table : TableId) (row : ℕ) (text : List ℕ) → (table ≡ TypeDef → ⊥) → (table ≡ TypeRef → ⊥) → (table ≡ TypeSpec → ⊥) → (table ≡ Field → ⊥)
    → (table ≡ MethodDef → ⊥) → (table ≡ Event → ⊥) → (table ≡ Property → ⊥) → (table ≡ MemberRef → ⊥) → IsPlainName model table row text → IsNameIn scopes model table row text
plain_name scopes model TypeDef row text a b c d e f g h is = absurd (a refl)
plain_name scopes model TypeRef row text a b c d e f g h is = absurd (b refl)
plain_name scopes model TypeSpec row text a b c d e f g h is = absurd (c refl)
plain_name scopes model Field row text a b c d e f g h is = absurd (d refl)
plain_name scopes model MethodDef row text a b c d e f g h is = absurd (e refl)
plain_name scopes model Event row text a b c d e f g h is = absurd (f refl)
plain_name scopes model Property row text a b c d e f g h is = absurd (g refl)
plain_name scopes model MemberRef row text a b c d e f g h is = absurd (h refl)
plain_name scopes model _ row text a b c d e f g h is = is

-- a row that exists has this name
pub row_named : (scopes : Scopes) (model : Metadata) (table : TableId) (token : Token) → token.table ≡ table → 1 ≤ token.row → token.row ≤ count_in model token.table → (text : List ℕ)
    → IsNameIn scopes model table token.row text → IsRowNameBy scopes model token text
row_named scopes model table token is first last text name = record {
  there = λ _. subst (λ (t : TableId). IsNameIn scopes model t token.row text) (sym is) name;
  missing = λ not. absurd (not (first, last));
}

-- a row of another table has no name
pub no_name : (model : Metadata) (table : TableId) (row : ℕ) → (table ≡ ModuleRef → ⊥) → (table ≡ AssemblyRef → ⊥) → (table ≡ File → ⊥) → (table ≡ ExportedType → ⊥) → (table ≡ GenericParam → ⊥)
    → IsPlainName model table row (codes "..")
no_name model ModuleRef row a b c d e = absurd (a refl)
no_name model AssemblyRef row a b c d e = absurd (b refl)
no_name model File row a b c d e = absurd (c refl)
no_name model ExportedType row a b c d e = absurd (d refl)
no_name model GenericParam row a b c d e = absurd (e refl)
no_name model _ row a b c d e = refl

-- the parent of a MemberRef exists
pub parent_there : (model : Metadata) → IsValid model → (row : ℕ) → HasRow model MemberRef row → (reference : Option Token) → cell_in model MemberRef row 0 ≡ Ref reference → MayRefer model false (Ref reference)
unfolding cell_columns
parent_there model valid row there reference is = subst (λ (c : Cell). MayRefer model false c) is (valid.cells MemberRef row 0 there (omega arith)).refers

-- a parent that is no method and no module gives its full name
pub named_under : (scopes : Scopes) (model : Metadata) (table : TableId) (row : ℕ) (own text : List ℕ) → (table ≡ MethodDef → ⊥) → (table ≡ ModuleRef → ⊥)
    → IsMemberName scopes model (record { table = table; row = row }) own text → IsNameUnder scopes model table row own text
named_under scopes model MethodDef row own text a b is = absurd (a refl)
named_under scopes model ModuleRef row own text a b is = absurd (b refl)
named_under scopes model _ row own text a b is = is

-- a row of a table that is none of these is no member
pub no_member : (model : Metadata) (table : TableId) (row : ℕ) → (table ≡ Field → ⊥) → (table ≡ MethodDef → ⊥) → (table ≡ Event → ⊥) → (table ≡ Property → ⊥) → IsMemberOf model table row None
no_member model Field row a b c d = absurd (a refl)
no_member model MethodDef row a b c d = absurd (b refl)
no_member model Event row a b c d = absurd (c refl)
no_member model Property row a b c d = absurd (d refl)
no_member model _ row a b c d = refl
