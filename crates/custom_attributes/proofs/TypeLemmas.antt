-- Types by their names, and enums.
use Rattle.custom_attributes.proofs.Prelude.{◌≡◌, ◌∙◌, ◌≤◌, ◌<◌, ◌+◌, ◌-◌, ◌↔◌, ⊎_elim, ℕ, zero, suc, Bor, Bool, true, false, IsTrue, Option, None, List, [], ◌∷◌, cond, min, length, arith, ap, refl, sym, cases_lt, le-ltb, lt-ltb, TableId, Field, TypeDef, TypeRef, Item, Cell, Ref, Text, Metadata, cell_in, count_in, start_in, Shows, ColumnKind, items_in, enum_at, field_type, fields_end, has_row, instance_type, is_enum, is_named_type, is_static, is_text, underlying_type}
use Rattle.std.proofs.lemmas.Bool.Decides.{same_from_decides}
use Rattle.std.proofs.lemmas.Slice.Eq.{bytes_eq-Decides}
use Rattle.std.specs.Bool.{Decides}
use Rattle.sig_items.specs.declared.item.Item.TheVariants as item
use Rattle.table_schema.specs.declared.token.Token.{Token}
use Rattle.metadata.specs.Lookups.{IsRun}
use Rattle.reading.specs.declared.cell_ref.CellRef.{CellRef}
use Rattle.reading.specs.declared.cell_ref.CellRef.TheVariants as seen

-- ---- names

text_decides : (cell : Cell) (name : List ℕ) → Decides (is_text name cell) (cell ≡ Text name)
text_decides (Text of) name = (λ same. ap Text ((bytes_eq-Decides of name).0 same), λ (same : Text of ≡ Text name). (bytes_eq-Decides of name).1 (cc))
text_decides _ name = (λ (same : false ≡ true). cc, λ same. cc)

pub text_is : (b : Bool) (cell : Cell) (name : List ℕ) → IsTrue b ↔ (cell ≡ Text name) → b ≡ is_text name cell
text_is b cell name reports = same_from_decides b (is_text name cell) reports (text_decides cell name)

pub other_type : (model : Metadata) (name : List ℕ) (table : TableId) (row : ℕ) → (table ≡ TypeDef → ⊥) → (table ≡ TypeRef → ⊥) → false ≡ is_named_type model name table row
other_type model name TypeDef row a b = absurd (a refl)
other_type model name TypeRef row a b = absurd (b refl)
other_type model name _ row a b = refl

-- ---- enums

pub other_enum : (model : Metadata) (table : TableId) (row : ℕ) → (table ≡ TypeDef → ⊥) → None ≡ enum_at model table row
other_enum model TypeDef row not = absurd (not refl)
other_enum model _ row not = refl

-- more items than the two of a field of a simple type
pub many_items : (items : List Item) → 2 < length items → None ≡ field_type items
many_items (item.Field ∷ (item.Simple of ∷ [])) many = absurd (omega (arith, many))
many_items _ many = refl

-- a value in place that is no signature
pub no_signature : (column : ColumnKind) (value : CellRef) (cell : Cell) → ((blob : Bor (List ℕ)) → value ≡ seen.Sig blob → ⊥) → Shows column value cell → items_in cell ≡ []
no_signature column (seen.Sig blob) cell not shows = absurd (not blob refl)
no_signature column _ cell not shows = ap items_in shows

-- the run of the fields of a type
pub run_first : (model : Metadata) (row first past : ℕ) → IsRun model TypeDef 4 Field row first past → start_in (cell_in model TypeDef row 4) ≡ first
run_first model row first past run = ap start_in run.start

pub run_past : (model : Metadata) (row first past : ℕ) → row ≤ count_in model TypeDef → IsRun model TypeDef 4 Field row first past → fields_end model row ≡ past
run_past model row first past within run =
    let next = start_in (cell_in model TypeDef (row + 1) 4) in
    let last = count_in model Field + 1 in
    ⊎_elim
    (λ (more : row < count_in model TypeDef). (λ i. cond (lt-ltb row (count_in model TypeDef) more i) next last) ∙ ap start_in (run.next more))
    (λ (all : count_in model TypeDef ≤ row).
    let same : row ≡ count_in model TypeDef = omega (arith, all, within) in
    (λ i. cond (le-ltb row (count_in model TypeDef) all i) next last) ∙ sym (run.last same))
    (cases_lt row (count_in model TypeDef))

-- an enum, and any other type
module _ (model : Metadata) (row : ℕ) (base : Option Token) (extends : cell_in model TypeDef row 3 ≡ Ref base) where
  pub no_enum : is_enum model base ≡ false → None ≡ underlying_type model row
  no_enum not = rw (extends, not) refl

  pub enum_run : is_enum model base ≡ true → (first past : ℕ) → row ≤ count_in model TypeDef → IsRun model TypeDef 4 Field row first past
      → instance_type model (min 16 (past - first)) first ≡ underlying_type model row
  enum_run is first past within run = rw (extends, is, run_first model row first past run, run_past model row first past within run) refl

-- ---- the first field that is not static

module _ (model : Metadata) where
  pub no_field : (k field : ℕ) → 1 ≤ k → has_row model Field field ≡ false → None ≡ instance_type model k field
  unfolding instance_type
  no_field zero field some not = absurd (omega (arith, some))
  no_field (suc k) field some not = rw not refl

  pub own_field : (k field : ℕ) → 1 ≤ k → has_row model Field field ≡ true → is_static (cell_in model Field field 0) ≡ false
      → field_type (items_in (cell_in model Field field 2)) ≡ instance_type model k field
  unfolding instance_type
  own_field zero field some there own = absurd (omega (arith, some))
  own_field (suc k) field some there own = rw (there, own) refl

  pub next_field : (n k field : ℕ) → k ≡ n + 1 → has_row model Field field ≡ true → is_static (cell_in model Field field 0) ≡ true
      → instance_type model k field ≡ instance_type model n (field + 1)
  unfolding instance_type
  next_field n zero field one there is = absurd (omega (arith, one))
  next_field n (suc k) field one there is = let same : k ≡ n = omega (arith, one) in rw (there, is, same) refl

  pub last_field : (k field : ℕ) → k ≡ 0 → None ≡ instance_type model k field
  unfolding instance_type
  last_field zero field none = refl
  last_field (suc k) field none = absurd (omega (arith, none))
