-- The length of a type index, from the number that `join` returns.
use Rattle.sig_encoder.proofs.Prelude.{◌≡◌, ℕ, zero, suc, ◌^◌, ◌<◌, ◌≤◌, Bool, true, false, ltb, Option, Some, None, refl, sym, arith, slice_get, position_or_len, ltb-true, lt-ltb, le-ltb, Token, is_table, index_number, has_tag, number_of}
use Rattle.std.proofs.lemmas.Option.{slice_get_within}
use Rattle.table_schema.specs.declared.table.TableId.{TableId}
use Rattle.table_schema.specs.declared.table.TableId.TheVariants.{TypeDef, TypeRef, TypeSpec}
use Rattle.table_schema.specs.declared.coded.Coded.TheVariants.{TypeDefOrRef}
use Rattle.table_schema.specs.CodedIndexes.{tables_of, IsCoded}

abbrev pub tag_of : TableId → ℕ
tag_of table = position_or_len (is_table table) (tables_of TypeDefOrRef)

tag_listed : (table : TableId) → ltb (tag_of table) 3 ≡ true → slice_get (tables_of TypeDefOrRef) (tag_of table) ≡ Some (Some table)
tag_listed TypeDef e = refl
tag_listed TypeRef e = refl
tag_listed TypeSpec e = refl
tag_listed _ e = cc

same_table : (first second : TableId) → Some (Some first) ≡ Some (Some second) → first ≡ second
same_table first second e = cc

listed_tag : (tag : ℕ) (table : TableId) → slice_get (tables_of TypeDefOrRef) tag ≡ Some (Some table) → tag_of table ≡ tag
listed_tag zero table e = rw (sym (same_table TypeDef table e)) refl
listed_tag (suc zero) table e = rw (sym (same_table TypeRef table e)) refl
listed_tag (suc (suc zero)) table e = rw (sym (same_table TypeSpec table e)) refl
listed_tag (suc (suc (suc tag))) table e =
    let few = slice_get_within (tables_of TypeDefOrRef) (suc (suc (suc tag))) (Some table) e in
    absurd (omega arith)

pub tag_small : (token : Token) → has_tag token ≡ true → tag_of token.table < 3
tag_small token e = ltb-true (tag_of token.table) 3 e

pub index_coded : (token : Token) → has_tag token ≡ true → IsCoded TypeDefOrRef (index_number token) token.table token.row
index_coded token e = record { tag = tag_of token.table; listed = tag_listed token.table e; equal = refl }

pub coded_tag : (token : Token) (n : ℕ) → IsCoded TypeDefOrRef n token.table token.row → has_tag token ≡ true
coded_tag token n is =
    let few = slice_get_within (tables_of TypeDefOrRef) is.tag (Some token.table) is.listed in
    let same = listed_tag is.tag token.table is.listed in
    lt-ltb (tag_of token.table) 3 (omega arith)

pub coded_number : (token : Token) (n : ℕ) → IsCoded TypeDefOrRef n token.table token.row → index_number token ≡ n
coded_number token n is =
    let same = listed_tag is.tag token.table is.listed in
    let equal = is.equal in
    omega arith

code_by : (token : Token) (b c : Bool) → has_tag token ≡ b → ltb (index_number token) (2 ^ 29) ≡ c → ((n : ℕ) → IsCoded TypeDefOrRef n token.table token.row → n < 2 ^ 32 → ⊥) → number_of token ≡ None
unfolding number_of
code_by token false c e f only = rw e refl
code_by token true false e f only = rw (e, f) refl
code_by token true true e f only = let lt = ltb-true (index_number token) (2 ^ 29) f in absurd (only (index_number token) (index_coded token e) (omega arith))

pub code_none : (token : Token) → ((n : ℕ) → IsCoded TypeDefOrRef n token.table token.row → n < 2 ^ 32 → ◌≡◌ {A = Option ℕ} None (Some n)) → number_of token ≡ None
code_none token only = code_by token (has_tag token) (ltb (index_number token) (2 ^ 29)) refl refl (λ n is lt. let e = only n is lt in cc)

pub code_some : (token : Token) (n : ℕ) → IsCoded TypeDefOrRef n token.table token.row → n < 2 ^ 29 → number_of token ≡ Some n
unfolding number_of
code_some token n is lt = rw (coded_tag token n is, coded_number token n is, lt-ltb n (2 ^ 29) lt) refl

pub code_great : (token : Token) (n : ℕ) → IsCoded TypeDefOrRef n token.table token.row → 2 ^ 29 ≤ n → number_of token ≡ None
unfolding number_of
code_great token n is le = rw (coded_tag token n is, coded_number token n is, le-ltb n (2 ^ 29) le) refl
