-- The numbers by which key columns name rows.
use Rattle.std.proofs.Common.{◌≡◌, ℕ, zero, suc, ◌*◌, ◌^◌, ◌≤◌, Option, Some, None, refl, sym, ap, subst, ◌∙◌, arith}
use Rattle.std.proofs.Math.Nat.{mul-le-mul_right}
use Rattle.metadata.proofs.Prelude.{pow_pos, position_or_len, TableId, Token, Coded, ColumnKind, tables_of, tag_bits, IsCoded, is_table, IsOfKind, row_number, key_number}
use Rattle.table_schema.specs.declared.column.ColumnKind.TheVariants as kind
use Rattle.metadata.specs.Cell as says
use Rattle.metadata.proofs.KeyLemmas.{tag_listed}
use Rattle.metadata.proofs.StandsLemmas.{token_one}

-- a column of a kind takes a reference to the row of a token
abbrev Takes : ColumnKind → Token → Type 0
Takes k token = IsOfKind k (says.Ref (Some token))

-- ---- the number of a row, and its table

-- the table of a row that a column of one table takes
row_taken : (table : TableId) (token : Token) → Takes (kind.Row table) token → token.table ≡ table
row_taken table token (zero, within, is) = cc
row_taken table token (suc k, within, is) = absurd (omega arith)

-- a coded index that takes a row names it by the row's number
coded_taken : (coded : Coded) (token : Token) → Takes (kind.Coded coded) token
    → IsCoded coded (row_number (kind.Coded coded) token) token.table token.row
coded_taken coded token takes =
    record { tag = position_or_len (is_table token.table) (tables_of coded); listed = tag_listed coded token.table takes; equal = refl }

-- ---- a number names one row

same_token : (k : ColumnKind) (a b : Token) → Takes k a → Takes k b → row_number k a ≡ row_number k b → a ≡ b
same_token (kind.Row table) a b x y same =
    let tables : a.table ≡ b.table = row_taken table a x ∙ sym (row_taken table b y) in
    λ i. record { table = tables i; row = same i }
same_token (kind.Coded coded) a b x y same =
    token_one coded (row_number (kind.Coded coded) a) a b (coded_taken coded a x)
    (subst (λ (n : ℕ). IsCoded coded n b.table b.row) (sym same) (coded_taken coded b y))
same_token _ a b x y same = absurd x

-- the number of a row is not that of null
number_some : (k : ColumnKind) (token : Token) → 1 ≤ token.row → Takes k token → 1 ≤ row_number k token
number_some (kind.Row table) token there takes = there
number_some (kind.Coded coded) token there takes =
    let some = pow_pos (tag_bits coded) in
    let more : 1 * 2 ^ tag_bits coded ≤ token.row * 2 ^ tag_bits coded = mul-le-mul_right (2 ^ tag_bits coded) there in
    omega arith
number_some _ token there takes = absurd takes

-- ---- which cells a number reports

reports_reference : (k : ColumnKind) (token : Token) → 1 ≤ token.row → Takes k token → (reference : Option Token) → IsOfKind k (says.Ref reference)
    → key_number k (says.Ref reference) ≡ row_number k token → says.Ref reference ≡ says.Ref (Some token)
reports_reference k token there takes None taken same = absurd (let some = number_some k token there takes in omega arith)
reports_reference k token there takes (Some other) taken same = ap (λ t. says.Ref (Some t)) (same_token k other token taken takes same)

-- a cell whose key number is that of a row is a reference to the row
pub reports_key : (k : ColumnKind) (token : Token) → 1 ≤ token.row → Takes k token → (cell : says.Cell) → IsOfKind k cell
    → key_number k cell ≡ row_number k token → cell ≡ says.Ref (Some token)
reports_key (kind.Row table) token there takes (says.Ref reference) taken same =
    reports_reference (kind.Row table) token there takes reference taken same
reports_key (kind.Coded coded) token there takes (says.Ref reference) taken same =
    reports_reference (kind.Coded coded) token there takes reference taken same
reports_key (kind.Row table) token there takes _ taken same = absurd taken
reports_key (kind.Coded coded) token there takes _ taken same = absurd taken
reports_key _ token there takes _ taken same = absurd takes
