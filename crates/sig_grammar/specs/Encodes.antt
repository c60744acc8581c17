-- Which bytes encode which signature, in which kind of column (ECMA-335 II.23.2 and II.22).
use Rattle.std.specs.Prelude.{ℕ, ◌^◌, ◌<◌, ◌≤◌, ◌&&◌, Bool, false, not, nat_lt, nat_le, Option, List, length, flat_map, slice_index, ⊤}
use Rattle.std.specs.List.{AllByRecursion, find}
use Rattle.table_schema.specs.declared.token.Token.{Token}
use Rattle.table_schema.specs.declared.column.SigKind.{SigKind}
use Rattle.table_schema.specs.declared.column.SigKind.TheVariants as column
use Rattle.table_schema.specs.Tables.{table_number}
use Rattle.sig_grammar.specs.Syntax.{Body, field, method_body, property, locals, instance_body, type_spec}
use Rattle.sig_grammar.specs.Parts.{EncodesParts, HasEncoding, short_part, part_tokens}
use Rattle.sig_grammar.specs.Grammar.{body_parts}
use Rattle.sig_grammar.specs.Limits.{HasOwnSentinel, IsBodyWithin}

-- the kind of column holds this form of signature
abbrev pub Holds : SigKind → Body → Type 0
Holds column.Field (field s) = ⊤
Holds column.MethodDef (method_body m) = HasOwnSentinel false m
Holds column.MemberRef (field s) = ⊤
Holds column.MemberRef (method_body m) = ⊤
Holds column.StandAlone (locals variables) = ⊤
Holds column.StandAlone (method_body m) = ⊤
Holds column.StandAlone (field s) = ⊤
Holds column.Property (property this of params) = ⊤
Holds column.TypeSpec (type_spec ret) = ⊤
Holds column.Instance (instance_body args) = ⊤
Holds _ _ = ⊥

-- all the bytes together encode the signature, in a column of the kind
pub record Encodes (kind : SigKind) (signature : Body) (bytes : List ℕ) : Type 0 where
  pub column : Holds kind signature
  pub body : IsBodyWithin 128 signature
  pub parts : EncodesParts (body_parts signature) bytes
  pub limit : length bytes < 2 ^ 29

-- the canonical encoding: each number and index has its shortest form
abbrev pub short : Body → List ℕ
short signature = flat_map short_part (body_parts signature)

-- the signature has an encoding: its types nest at most 128 deep, its parts have encodings, and it fits a blob
pub record IsEncodable (signature : Body) : Type 0 where
  pub body : IsBodyWithin 128 signature
  pub parts : AllByRecursion HasEncoding (body_parts signature)
  pub limit : length (short signature) < 2 ^ 29

-- the type indexes of a signature, in encoded order (II.23.2.8)
abbrev pub tokens : Body → List Token
tokens signature = flat_map part_tokens (body_parts signature)

-- the token's row exists; the list gives the number of rows of each table, by table number
abbrev pub HasRow : List ℕ → Token → Type 0
HasRow counts token = (0 < token.row) × (token.row ≤ slice_index counts (table_number token.table))

-- the same as a boolean test
abbrev pub has_row : List ℕ → Token → Bool
has_row counts token = nat_lt 0 token.row && nat_le token.row (slice_index counts (table_number token.table))

-- the first type index whose row does not exist
abbrev pub first_bad : List ℕ → List Token → Option Token
first_bad counts tokens = find (λ token. not (has_row counts token)) tokens
