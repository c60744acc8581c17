-- The number in a column of numbers, or of rows, is that of its cell.
use Rattle.opening.proofs.Prelude.{◌≡◌, ◌≤◌, ◌<◌, ℕ, ◌*◌, ◌^◌, Bool, Some, length, inl, inr, sym, ap, subst, ◌∙◌, arith, TableId, ColumnKind, Cell, row_number, Source, Refers, StandsFor, row_in, IsCodedNumber, IsNumberOf}
use Rattle.std.proofs.Math.Nat.{mul-le-mul_right}
use Rattle.std.proofs.lemmas.Option.{slice_get_within}
use Rattle.table_schema.specs.declared.token.Token.{Token}
use Rattle.table_schema.specs.declared.coded.Coded.{Coded}
use Rattle.table_schema.specs.declared.column.ColumnKind.TheVariants as kind
use Rattle.table_schema.specs.CodedIndexes.{IsCoded, tables_of, tag_bits}

row_is : (source : Source) (nullable : Bool) (table : TableId) (number : ℕ) (cell : Cell) → Refers source nullable (record { table = table; row = number }) cell
    → number ≡ row_in cell
row_is source nullable table number cell (inl null) = null.0 ∙ sym (ap row_in null.2)
row_is source nullable table number cell (inr there) = sym (ap row_in there.1)

-- what is known of coded indexes: their tags fit, and they are the numbers of rows
pub record CodedKnown : Type 0 where
  pub few : (coded : Coded) → length (tables_of coded) ≤ 2 ^ tag_bits coded
  pub row : (coded : Coded) (number : ℕ) (token : Token) → IsCoded coded number token.table token.row → number ≡ row_number (kind.Coded coded) token

coded_is : CodedKnown → (source : Source) (nullable : Bool) (coded : Coded) (number : ℕ) (token : Token) (cell : Cell) → IsCoded coded number token.table token.row
    → Refers source nullable token cell → IsCodedNumber coded number cell
coded_is known source nullable coded number token cell is (inl null) =
    let few = known.few coded in
    let within = slice_get_within (tables_of coded) is.tag (Some token.table) is.listed in
    let no_row = ap (λ (row : ℕ). row * 2 ^ tag_bits coded) null.0 in
    let equal = is.equal in
    let only_tag : number < 2 ^ tag_bits coded = omega arith in
    subst (IsCodedNumber coded number) (sym null.2) only_tag
coded_is known source nullable coded number token cell is (inr there) =
    let some : 1 * 2 ^ tag_bits coded ≤ token.row * 2 ^ tag_bits coded = mul-le-mul_right (2 ^ tag_bits coded) there.0.0 in
    let equal = is.equal in
    let above : 2 ^ tag_bits coded ≤ number = omega arith in
    subst (IsCodedNumber coded number) (sym there.1) (above, known.row coded number token is)

pub number_is : CodedKnown → (source : Source) (k : ColumnKind) (nullable : Bool) (start : TableId → ℕ) (number : ℕ) (cell : Cell) → StandsFor source k nullable start number cell
    → IsNumberOf k number cell
number_is known source kind.U8 nullable start number cell stands = stands
number_is known source kind.U16 nullable start number cell stands = stands
number_is known source kind.U32 nullable start number cell stands = stands
number_is known source (kind.Row table) nullable start number cell stands = row_is source nullable table number cell stands
number_is known source (kind.Coded coded) nullable start number cell stands = coded_is known source nullable coded number stands.0 cell stands.1 stands.2
number_is known source _ nullable start number cell stands = tt
