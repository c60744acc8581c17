-- The bytes of a signature, and what follows from the result of a writer.
use Rattle.std.proofs.Common.{◌≡◌, ◌<◌, ℕ, Bool, true, List, Option, Some, None, Result, Ok, Err, OnOk, IfSome, IfNone, refl, sym, ap, subst, ◌∙◌}
use Rattle.full_names.proofs.Prelude.{is_ok, cell_count, TableId, TypeDef, TypeRef, TypeSpec, Token, ColumnKind, Body, Method, Slot, method_body, property, Encodes, Holds, IsEncodable, short, Cell, Sig, IsHeld, IsOfKind, HasRow, Metadata, cell_in, IsValid, kind_at, WritesInCalls, Scopes, Wrote, IsFullNameBy, IsTypeSpecText}
use Rattle.table_schema.specs.declared.column.SigKind.{SigKind}
use Rattle.table_schema.specs.declared.column.SigKind.TheVariants as columns
use Rattle.table_schema.specs.declared.column.ColumnKind.TheVariants as kind
use Rattle.metadata_source.specs.declared.signature_bytes.SignatureBytes.{SignatureBytes}
use Rattle.metadata_source.specs.declared.signature_bytes.SignatureBytes.TheVariants.{Stored, Canonical}
use Rattle.metadata_source.specs.SignatureBytes.{AreBytesOf}
use Rattle.full_names.specs.SignatureBytes.{bytes_in}
use Rattle.full_names.specs.declared.text_error.TextError.{TextError}
use Rattle.full_names.proofs.TextLemmas.{writes_once}

signature_in : Body → Cell → Body
signature_in other (Sig signature) = signature
signature_in other cell = other

pub same_signature : (signature other : Body) → Sig signature ≡ Sig other → signature ≡ other
unfolding signature_in
same_signature signature other is = ap (signature_in signature) is

-- the bytes of a cell's signature encode it
encoded_in : (kind : SigKind) (bytes : SignatureBytes) (cell : Cell) (signature : Body) → ((other : Body) → Holds kind other → IsEncodable other → Encodes kind other (short other))
    → AreBytesOf kind bytes cell → cell ≡ Sig signature → Holds kind signature → IsEncodable signature → Encodes kind signature (bytes_in bytes)
unfolding signature_in
encoded_in kind (Stored blob) cell signature short_encodes (other, encodes, is) of holds encodable =
    let same : other ≡ signature = ap (signature_in other) (sym is ∙ of) in subst (λ (s : Body). Encodes kind s blob.now) same encodes
encoded_in kind (Canonical bytes) cell signature short_encodes (other, items, is) of holds encodable =
    let same : other ≡ signature = ap (signature_in other) (sym is ∙ of) in
    let short_is : bytes.items ≡ short signature = items ∙ ap (λ (s : Body). short s) same in
    subst (λ (b : List ℕ). Encodes kind signature b) (sym short_is) (short_encodes signature holds encodable)

-- the bytes of the signature in a cell of a valid model encode it
pub encoded_by : (model : Metadata) → IsValid model → (column : SigKind) → ((other : Body) → Holds column other → IsEncodable other → Encodes column other (short other))
    → (table : TableId) (row cell : ℕ) → HasRow model table row → cell < cell_count table → kind_at table cell ≡ kind.Signature column
    → (bytes : SignatureBytes) → AreBytesOf column bytes (cell_in model table row cell) → (signature : Body) → cell_in model table row cell ≡ Sig signature
    → Encodes column signature (bytes_in bytes)
encoded_by model valid column short_encodes table row cell there within is_column bytes are signature is =
    let held = (valid.cells table row cell there within).held in
    let own : Holds column signature × IsEncodable signature =
    subst (λ (k : ColumnKind). IsHeld k (Sig signature)) is_column (subst (λ (c : Cell). IsHeld (kind_at table cell) c) is held) in
    encoded_in column bytes (cell_in model table row cell) signature short_encodes are is own.0 own.1

-- what follows from what holds of a result
pub ok_then : {E P Q : Type 0} (result : Result (Unit {0}) E) → OnOk result P → (P → Q) → OnOk result Q
ok_then (Ok u) holds after = after holds
ok_then (Err e) holds after = tt

-- what holds if a writer's result is `Ok` holds if a sink took the piece
pub on_taken : {E : Type 0} {P : Type 0} (written : Result (Unit {0}) E) → is_ok written ≡ true → OnOk written P → P
on_taken (Ok u) is holds = holds
on_taken (Err e) is holds = absurd cc

-- a cell in a column of signatures is a signature
pub signature_of : (column : SigKind) (cell : Cell) → IsOfKind (kind.Signature column) cell → (signature : Body) × (cell ≡ Sig signature)
signature_of column (Sig signature) of = (signature, refl)
signature_of column cell of = absurd of

-- one in the column of methods is that of a method, and one in the column of properties is that of a property
method_held : (of : Body) → Holds columns.MethodDef of → (method : Method) × (of ≡ method_body method)
method_held (method_body m) held = (m, refl)
method_held _ held = absurd held

property_held : (of : Body) → Holds columns.Property of → (this : Bool) × (type : Slot) × (params : List Slot) × (of ≡ property this type params)
property_held (property this of params) held = (this, of, params, refl)
property_held _ held = absurd held

pub method_in : (cell : Cell) → IsOfKind (kind.Signature columns.MethodDef) cell → IsHeld (kind.Signature columns.MethodDef) cell
    → (method : Method) × (cell ≡ Sig (method_body method))
method_in (Sig of) of_kind held = let method = method_held of held.0 in (method.0, ap (λ b. Sig b) method.1)
method_in cell of_kind held = absurd of_kind

pub property_in : (cell : Cell) → IsOfKind (kind.Signature columns.Property) cell → IsHeld (kind.Signature columns.Property) cell
    → (this : Bool) × (type : Slot) × (params : List Slot) × (cell ≡ Sig (property this type params))
property_in (Sig of) of_kind held = let p = property_held of held.0 in (p.0, p.1, p.2, ap (λ b. Sig b) p.3)
property_in cell of_kind held = absurd of_kind

-- the text of a TypeSpec is its name
pub spec_name : {W : Type 0} (took : W → List ℕ → W → Type 0) (scopes : Scopes) (model : Metadata) (token : Token) (signature : Body) (w v : W) (result : Result (Unit {0}) TextError)
    → token.table ≡ TypeSpec → HasRow model token.table token.row → cell_in model TypeSpec token.row 0 ≡ Sig signature
    → OnOk result (Wrote took w (IsTypeSpecText scopes model signature) v) → OnOk result (Wrote took w (IsFullNameBy scopes model token) v)
unfolding signature_in
spec_name took scopes model token signature w v (Err e) table there is wrote = tt
spec_name took scopes model token signature w v (Ok u) table there is wrote = (
  wrote.0,
  record {
    type_def = λ other row. let f : TypeSpec ≡ TypeDef = sym table ∙ other in absurd cc;
    type_ref = λ other row. let f : TypeSpec ≡ TypeRef = sym table ∙ other in absurd cc;
    type_spec = λ same row other of. let one : signature ≡ other = ap (signature_in signature) (sym is ∙ of) in subst (λ (s : Body). IsTypeSpecText scopes model s wrote.0) one wrote.1;
    other = λ named spec. absurd (spec (table, there));
  },
  wrote.2,
)

-- a text with one property has another
pub on_wrote : {W T E : Type 0} (took : W → List ℕ → W → Type 0) (P Q : List ℕ → Type 0) (w v : W) (result : Result T E) → OnOk result (Wrote took w P v)
    → ((text : List ℕ) → P text → Q text) → OnOk result (Wrote took w Q v)
on_wrote took P Q w v (Ok done) wrote change = (wrote.0, change wrote.0 wrote.1, wrote.2)
on_wrote took P Q w v (Err e) wrote change = tt

-- a text that was written has a property
pub wrote_plain : {W T E : Type 0} (took : W → List ℕ → W → Type 0) (P : List ℕ → Type 0) (w v : W) (result : Result T E) (text : List ℕ) → P text → OnOk result (WritesInCalls took w text v)
    → OnOk result (Wrote took w P v)
wrote_plain took P w v (Ok done) text is wrote = (text, is, wrote)
wrote_plain took P w v (Err e) text is wrote = tt

-- what follows from what holds of a value, and of none
pub on_some : {X : Type 0} (P Q : X → Type 0) (o : Option X) → IfSome o P → ((x : X) → P x → Q x) → IfSome o Q
on_some P Q None is f = tt
on_some P Q (Some x) is f = f x is

pub on_none : {X P Q : Type 0} (o : Option X) → IfNone o P → (P → Q) → IfNone o Q
on_none None is f = f is
on_none (Some x) is f = tt

-- a writer that passes over each text wrote any text that there is
pub passed_over : {W : Type 0} (took : W → List ℕ → W → Type 0) (w : W) (P : List ℕ → Type 0) → ((text : List ℕ) → took w text w) → (text : List ℕ) × P text → Wrote took w P w
passed_over took w P same some = (some.0, some.1, writes_once took w some.0 w (same some.0))
