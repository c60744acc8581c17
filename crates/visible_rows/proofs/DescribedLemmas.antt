-- Rows of tables that describe nothing, and of tables that are no parts of types.
use Rattle.visible_rows.proofs.Prelude.{◌≡◌, ℕ, Option, None, refl, TableId, Token, IsMemberOf, IsPartOf, subject_of, TypeDef, Param, InterfaceImpl, GenericParam, GenericParamConstraint, MethodImpl, ImplMap, DeclSecurity, CustomAttribute, Metadata, Cell, Ref, reference_in}

-- the row that a cell refers to
pub referred : (cell : Cell) (row : Option Token) → cell ≡ Ref row → row ≡ reference_in cell
referred cell row is = rw is refl

pub no_subject : (model : Metadata) (table : TableId) (row : ℕ) → (table ≡ InterfaceImpl → ⊥) → (table ≡ GenericParam → ⊥) → (table ≡ GenericParamConstraint → ⊥)
    → (table ≡ MethodImpl → ⊥) → (table ≡ ImplMap → ⊥) → (table ≡ DeclSecurity → ⊥) → (table ≡ CustomAttribute → ⊥) → None ≡ subject_of model table row
no_subject model InterfaceImpl row a b c d e f g = absurd (a refl)
no_subject model GenericParam row a b c d e f g = absurd (b refl)
no_subject model GenericParamConstraint row a b c d e f g = absurd (c refl)
no_subject model MethodImpl row a b c d e f g = absurd (d refl)
no_subject model ImplMap row a b c d e f g = absurd (e refl)
no_subject model DeclSecurity row a b c d e f g = absurd (f refl)
no_subject model CustomAttribute row a b c d e f g = absurd (g refl)
no_subject model _ row a b c d e f g = refl

pub part_of_member : (model : Metadata) (table : TableId) (row : ℕ) (class : Option Token) → (table ≡ TypeDef → ⊥) → (table ≡ Param → ⊥)
    → IsMemberOf model table row class → IsPartOf model table row class
part_of_member model TypeDef row class a b is = absurd (a refl)
part_of_member model Param row class a b is = absurd (b refl)
part_of_member model _ row class a b is = is
