-- The types of elements that classes and value types stand for (ECMA-335 II.14.3, II.22.37, II.22.38).
use Rattle.std.specs.Prelude.{ℕ, zero, suc, ◌+◌, ◌-◌, ◌/◌, ◌%◌, ◌==◌, ◌&&◌, nat_le, nat_lt, Bool, true, false, if◌then◌else◌, min, List, [], ◌∷◌, codes, Option, None, Some}
use Rattle.std.specs.Str.{bytes_eq}
use Rattle.table_schema.specs.declared.table.TableId.{TableId}
use Rattle.table_schema.specs.declared.table.TableId.TheVariants.{Field, TypeDef, TypeRef}
use Rattle.table_schema.specs.declared.token.Token.{Token}
use Rattle.sig_grammar.specs.declared.element.Element.{Element}
use Rattle.sig_grammar.specs.declared.element.Element.TheVariants.{Boolean, Char, I1, U1, I2, U2, I4, U4, I8, U8}
use Rattle.sig_items.specs.declared.item.Item.{Item}
use Rattle.sig_items.specs.declared.item.Item.TheVariants as item
use Rattle.metadata.specs.Cell.{Cell, Text, number_in, reference_in, start_in}
use Rattle.metadata.specs.Metadata.{Metadata, cell_in, count_in}
use Rattle.custom_attributes.specs.Signatures.{items_in}

-- the row of a table exists
abbrev pub has_row : Metadata → TableId → ℕ → Bool
has_row model table row = nat_le 1 row && nat_le row (count_in model table)

-- ---- types of the namespace System

abbrev pub is_text : List ℕ → Cell → Bool
is_text name (Text of) = bytes_eq of name
is_text name _ = false

-- the row exists, and has this name in the namespace System
abbrev pub is_named : Metadata → List ℕ → TableId → ℕ → Bool
is_named model name table row =
    has_row model table row && is_text (codes "System") (cell_in model table row 2) && is_text name (cell_in model table row 1)

abbrev pub is_named_type : Metadata → List ℕ → TableId → ℕ → Bool
is_named_type model name TypeDef row = is_named model name TypeDef row
is_named_type model name TypeRef row = is_named model name TypeRef row
is_named_type model name _ row = false

-- a row of TypeDef or TypeRef with this name in the namespace System
abbrev pub is_system_type : Metadata → List ℕ → Token → Bool
is_system_type model name of = is_named_type model name of.table of.row

-- ---- enums

-- a type that extends System.Enum
abbrev pub is_enum : Metadata → Option Token → Bool
is_enum model None = false
is_enum model (Some base) = is_system_type model (codes "Enum") base

-- Static (II.23.1.5)
abbrev pub is_static : Cell → Bool
is_static cell = number_in cell / 16 % 2 == 1

-- the types that an enum may have, but for native integers, of which there are no values
abbrev pub is_underlying : Element → Bool
is_underlying Boolean = true
is_underlying Char = true
is_underlying I1 = true
is_underlying U1 = true
is_underlying I2 = true
is_underlying U2 = true
is_underlying I4 = true
is_underlying U4 = true
is_underlying I8 = true
is_underlying U8 = true
is_underlying _ = false

-- the type of a field, if it is one that an enum may have
abbrev pub field_type : List Item → Option Element
field_type (item.Field ∷ item.Simple of ∷ []) = if is_underlying of then Some of else None
field_type _ = None

-- of this many fields from one on, the type of the first that is not static
unfoldable pub instance_type : Metadata → ℕ → ℕ → Option Element
instance_type model zero field = None
instance_type model (suc count) field =
    if has_row model Field field
    then (if is_static (cell_in model Field field 0) then instance_type model count (field + 1) else field_type (items_in (cell_in model Field field 2)))
    else None

-- the number of fields among which that of an enum is looked for
abbrev pub most_fields : ℕ
most_fields = 16

-- the row after the last field of a type (II.22.37)
abbrev pub fields_end : Metadata → ℕ → ℕ
fields_end model row = if nat_lt row (count_in model TypeDef) then start_in (cell_in model TypeDef (row + 1) 4) else count_in model Field + 1

-- the underlying type of a type, if it is an enum and its instance field is among its first fields
abbrev pub underlying_type : Metadata → ℕ → Option Element
underlying_type model row =
    let first = start_in (cell_in model TypeDef row 4) in
    if is_enum model (reference_in (cell_in model TypeDef row 3)) then instance_type model (min most_fields (fields_end model row - first)) first else None

abbrev pub enum_at : Metadata → TableId → ℕ → Option Element
enum_at model TypeDef row = if has_row model TypeDef row then underlying_type model row else None
enum_at model _ row = None

-- the underlying type of an enum of this file
abbrev pub enum_type : Metadata → Token → Option Element
enum_type model of = enum_at model of.table of.row
