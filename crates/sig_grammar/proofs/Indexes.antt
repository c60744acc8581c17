-- The token of a type index is the one that its number names.
use Rattle.std.proofs.Common.{◌≡◌, ℕ, ◌/◌, ◌%◌, ◌<◌, Option, Some, None, refl, arith, IfSome}
use Rattle.std.specs.Prelude.{option_and_then, slice_get}
use Rattle.std.proofs.lemmas.Option.{slice_get_within}
use Rattle.table_schema.specs.declared.token.Token.{Token}
use Rattle.table_schema.specs.declared.table.TableId.{TableId}
use Rattle.table_schema.specs.declared.coded.Coded.TheVariants.{TypeDefOrRef}
use Rattle.table_schema.specs.CodedIndexes.{tables_of, IsCoded}
use Rattle.sig_grammar.specs.Reading.{token_in, token_of}

-- the number encodes the token
abbrev pub Names : ℕ → Token → Type 0
Names n t = IsCoded TypeDefOrRef n t.table t.row

token_from : (n : ℕ) (o : Option (Option TableId)) → slice_get (tables_of TypeDefOrRef) (n % 4) ≡ o → IfSome (option_and_then (token_in n) o) (Names n)
token_from n None e = tt
token_from n (Some None) e = tt
token_from n (Some (Some table)) e = record { tag = n % 4; listed = e; equal = omega arith }

pub token_found : (n : ℕ) → IfSome (token_of n) (Names n)
unfolding token_of
token_found n = token_from n (slice_get (tables_of TypeDefOrRef) (n % 4)) refl

pub token_again : (n : ℕ) (t : Token) → Names n t → token_of n ≡ Some t
unfolding token_of
token_again n t is =
    let few : is.tag < 3 = slice_get_within (tables_of TypeDefOrRef) is.tag (Some t.table) is.listed in
    let equal = is.equal in
    let tag : n % 4 ≡ is.tag = omega arith in
    let row : n / 4 ≡ t.row = omega arith in
    rw (tag, is.listed, row) refl
