-- The parts of an encoding, and the bytes that encode each part (ECMA-335 II.23.2).
use Rattle.std.specs.Prelude.{◌≡◌, ℕ, ℤ, ◌+◌, ◌*◌, ◌^◌, ◌<◌, ◌==◌, Bool, false, Option, Some, None, List, [], ◌∷◌, ◌++◌}
use Rattle.std.specs.List.{position_or_len}
use Rattle.packed.specs.Packed.{IsPacked, IsPackedSigned, FitsBits, short_unsigned, short_signed}
use Rattle.table_schema.specs.declared.token.Token.{Token}
use Rattle.table_schema.specs.declared.table.TableId.{TableId}
use Rattle.table_schema.specs.declared.coded.Coded.TheVariants.{TypeDefOrRef}
use Rattle.table_schema.specs.Tables.{table_number}
use Rattle.table_schema.specs.CodedIndexes.{tables_of, IsCoded}

-- a byte, a packed number, a packed signed number, or the index of a row of TypeDef, TypeRef or TypeSpec
pub data Part : Type 0 where
  byte : ℕ → Part
  number : ℕ → Part
  signed : ℤ → Part
  index : Token → Part

-- TypeDefOrRefOrSpecEncoded (II.23.2.8): a packed number whose value is a TypeDefOrRef coded index
pub record IsIndex (token : Token) (bytes : List ℕ) : Type 0 where
  pub number : ℕ
  pub coded : IsCoded TypeDefOrRef number token.table token.row
  pub packed : IsPacked number bytes

-- the bytes encode the part
abbrev pub EncodesPart : Part → List ℕ → Type 0
EncodesPart (byte c) bytes = bytes ≡ c ∷ []
EncodesPart (number n) bytes = IsPacked n bytes
EncodesPart (signed z) bytes = IsPackedSigned z bytes
EncodesPart (index token) bytes = IsIndex token bytes

-- the bytes encode the parts, one after another
abbrev pub EncodesParts : List Part → List ℕ → Type 0
EncodesParts [] bytes = bytes ≡ []
EncodesParts (part ∷ parts) bytes =
    (head tail : List ℕ) × (bytes ≡ head ++ tail) × EncodesPart part head × EncodesParts parts tail

-- ---- the canonical encoding

abbrev pub is_table : TableId → Option TableId → Bool
is_table table None = false
is_table table (Some listed) = table_number table == table_number listed

-- the number of an index: the row, shifted left by the two bits of the table's tag
abbrev pub index_number : Token → ℕ
index_number token = token.row * 4 + position_or_len (is_table token.table) (tables_of TypeDefOrRef)

abbrev pub short_part : Part → List ℕ
short_part (byte c) = c ∷ []
short_part (number n) = short_unsigned n
short_part (signed z) = short_signed z
short_part (index token) = short_unsigned (index_number token)

-- the part has an encoding: numbers have at most 29 bits, and an index names TypeDef, TypeRef or TypeSpec
abbrev pub HasEncoding : Part → Type 0
HasEncoding (byte c) = c < 256
HasEncoding (number n) = n < 2 ^ 29
HasEncoding (signed z) = FitsBits 29 z
HasEncoding (index token) = IsCoded TypeDefOrRef (index_number token) token.table token.row × (token.row < 2 ^ 27)

-- ---- the type indexes

abbrev pub part_tokens : Part → List Token
part_tokens (byte c) = []
part_tokens (number n) = []
part_tokens (signed z) = []
part_tokens (index token) = token ∷ []
