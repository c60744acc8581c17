-- A number represents a cell if and only if all rules for it hold. It represents at most one.
use Rattle.metadata.proofs.Prelude.{◌≡◌, ℕ, Bool, true, false, List, Option, Some, None, refl, sym, ◌∙◌, ap, subst, arith, inl, inr, AllHold, TableId, Token, Coded, SigKind, ColumnKind, IsCoded, IsText, IsBlob, IsGuid, Body, Encodes, Cell, Number, Text, Bytes, Guid, Ref, Start, Sig, Source, Refers, StandsFor, is_padding, MayRefer, rules_of_number, rules_of_encoding}
use Rattle.table_schema.specs.declared.column.ColumnKind.TheVariants as kind
use Rattle.table_schema.proofs.CodedLemmas.{one_name}
use Rattle.heap_entries.specs.Rules.{rules_of_text}

-- references

refers_found : (source : Source) (nullable : Bool) (token : Token) → MayRefer source nullable token → (cell : Cell) × Refers source nullable token cell
refers_found source nullable token (inl null) = (Ref None, inl (null.0, null.1, refl))
refers_found source nullable token (inr there) = (Ref (Some token), inr (there, refl))

refers_met : (source : Source) (nullable : Bool) (token : Token) (cell : Cell) → Refers source nullable token cell → MayRefer source nullable token
refers_met source nullable token cell (inl null) = inl (null.0, null.1)
refers_met source nullable token cell (inr there) = inr there.0

refers_one : (source : Source) (nullable : Bool) (token : Token) (x y : Cell) → Refers source nullable token x → Refers source nullable token y → x ≡ y
refers_one source nullable token x y (inl a) (inl b) = a.2 ∙ sym b.2
refers_one source nullable token x y (inl a) (inr b) = absurd (omega (arith, a.0, b.0.0))
refers_one source nullable token x y (inr a) (inl b) = absurd (omega (arith, a.0.0, b.0))
refers_one source nullable token x y (inr a) (inr b) = a.1 ∙ sym b.1

-- texts

text_met : (heap : List ℕ) (index offset : ℕ) (text : List ℕ) → IsText heap index text → AllHold (rules_of_text heap index offset)
text_met heap index offset text (inl none) = (inl none.0, ((text, inl none), tt))
text_met heap index offset text (inr some) = (inr (text, some.1), ((text, inr some), tt))

-- numbers

pub stands_found : (source : Source) (kind : ColumnKind) (nullable : Bool) (start : TableId → ℕ) (number offset other : ℕ) → is_padding kind ≡ false
    → AllHold (rules_of_number source kind nullable number offset) → AllHold (rules_of_encoding source kind number other)
    → (cell : Cell) × StandsFor source kind nullable start number cell
stands_found source kind.U8 nullable start number offset other cell all encoded = (Number number, refl)
stands_found source kind.U16 nullable start number offset other cell all encoded = (Number number, refl)
stands_found source kind.U32 nullable start number offset other cell all encoded = (Number number, refl)
stands_found source kind.Padding nullable start number offset other cell all encoded = absurd cc
stands_found source kind.Text nullable start number offset other cell all encoded = let text = all.1.0 in (Text text.0, (text.0, text.1, refl))
stands_found source kind.Guid nullable start number offset other cell all encoded = let guid = all.0 in (Guid guid.0, (guid.0, guid.1, refl))
stands_found source kind.Blob nullable start number offset other cell all encoded = let blob = all.0 in (Bytes blob.0, (blob.0, blob.1, refl))
stands_found source (kind.Signature column) nullable start number offset other cell all encoded =
    let has = encoded.1.0 in (Sig has.1, (has.0, has.1, has.2, has.3, has.4, refl))
stands_found source (kind.Row table) nullable start number offset other cell all encoded =
    refers_found source nullable (record { table = table; row = number }) all.0
stands_found source (kind.Coded coded) nullable start number offset other cell all encoded =
    let some = all.1.0 in
    let found = refers_found source nullable some.0 some.2 in
    (found.0, (some.0, some.1, found.1))
stands_found source (kind.List member) nullable start number offset other cell all encoded = (Start (start member), (all.0, refl))

pub number_met : (source : Source) (kind : ColumnKind) (nullable : Bool) (start : TableId → ℕ) (number offset : ℕ) (cell : Cell)
    → StandsFor source kind nullable start number cell → AllHold (rules_of_number source kind nullable number offset)
number_met source kind.Text nullable start number offset cell is = text_met source.texts number offset is.0 is.1
number_met source kind.Guid nullable start number offset cell is = ((is.0, is.1), tt)
number_met source kind.Blob nullable start number offset cell is = ((is.0, is.1), tt)
number_met source (kind.Signature column) nullable start number offset cell is = ((is.0, is.2), tt)
number_met source (kind.Row table) nullable start number offset cell is = (refers_met source nullable (record { table = table; row = number }) cell is, tt)
number_met source (kind.Coded coded) nullable start number offset cell is = ((is.0, is.1), ((is.0, is.1, refers_met source nullable is.0 cell is.2), tt))
number_met source (kind.List member) nullable start number offset cell is = (is.0, tt)
number_met source _ nullable start number offset cell is = tt

pub encoding_met : (source : Source) (kind : ColumnKind) (nullable : Bool) (start : TableId → ℕ) (number offset : ℕ) (cell : Cell)
    → StandsFor source kind nullable start number cell → AllHold (rules_of_encoding source kind number offset)
encoding_met source (kind.Signature column) nullable start number offset cell is =
    ((is.0, is.1, is.2, is.3, tt), ((is.0, is.1, is.2, is.3, is.4), tt))
encoding_met source _ nullable start number offset cell is = tt

-- padding has no rules
pub padding_met : (source : Source) (kind : ColumnKind) (nullable : Bool) (number offset other : ℕ) → is_padding kind ≡ true
    → AllHold (rules_of_number source kind nullable number offset) × AllHold (rules_of_encoding source kind number other)
padding_met source kind.Padding nullable number offset other padding = (tt, tt)
padding_met source _ nullable number offset other padding = absurd cc

-- what is known of entries and signatures
pub record AreOne : Type 0 where
  pub text : (heap : List ℕ) (index : ℕ) (text other : List ℕ) → IsText heap index text → IsText heap index other → text ≡ other
  pub blob : (heap : List ℕ) (index : ℕ) (blob other : List ℕ) → IsBlob heap index blob → IsBlob heap index other → blob ≡ other
  pub guid : (heap : List ℕ) (index : ℕ) (guid other : Option (List ℕ)) → IsGuid heap index guid → IsGuid heap index other → guid ≡ other
  pub signature : (kind : SigKind) (first second : Body) (bytes : List ℕ) → Encodes kind first bytes → Encodes kind second bytes → first ≡ second

-- a coded index refers to one row
pub token_one : (coded : Coded) (number : ℕ) (a b : Token) → IsCoded coded number a.table a.row → IsCoded coded number b.table b.row → a ≡ b
token_one coded number a b x y =
    let same : (a.table ≡ b.table) × (a.row ≡ b.row) = one_name coded number a.table b.table a.row b.row x y in
    λ i. record { table = same.0 i; row = same.1 i }

pub stands_one : AreOne → (source : Source) (kind : ColumnKind) (nullable : Bool) (start : TableId → ℕ) (number : ℕ) (x y : Cell)
    → StandsFor source kind nullable start number x → StandsFor source kind nullable start number y → x ≡ y
stands_one one source kind.U8 nullable start number x y a b = a ∙ sym b
stands_one one source kind.U16 nullable start number x y a b = a ∙ sym b
stands_one one source kind.U32 nullable start number x y a b = a ∙ sym b
stands_one one source kind.Padding nullable start number x y a b = absurd a
stands_one one source kind.Text nullable start number x y a b = a.2 ∙ ap Text (one.text source.texts number a.0 b.0 a.1 b.1) ∙ sym b.2
stands_one one source kind.Guid nullable start number x y a b = a.2 ∙ ap Guid (one.guid source.guids number a.0 b.0 a.1 b.1) ∙ sym b.2
stands_one one source kind.Blob nullable start number x y a b = a.2 ∙ ap Bytes (one.blob source.blobs number a.0 b.0 a.1 b.1) ∙ sym b.2
stands_one one source (kind.Signature column) nullable start number x y a b =
    let blob = one.blob source.blobs number a.0 b.0 a.2 b.2 in
    a.5 ∙ ap Sig (one.signature column a.1 b.1 b.0 (subst (Encodes column a.1) blob a.3) b.3) ∙ sym b.5
stands_one one source (kind.Row table) nullable start number x y a b = refers_one source nullable (record { table = table; row = number }) x y a b
stands_one one source (kind.Coded coded) nullable start number x y a b =
    let named = token_one coded number a.0 b.0 a.1 b.1 in
    refers_one source nullable b.0 x y (subst (λ (t : Token). Refers source nullable t x) named a.2) b.2
stands_one one source (kind.List member) nullable start number x y a b = a.1 ∙ sym b.1
