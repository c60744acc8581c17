-- The rows that refer to a type or a member, and to a generic parameter (ECMA-335 II.22.8, II.22.9, II.22.12, II.22.16 to II.22.18, II.22.20,
-- II.22.21, II.22.23, II.22.28 and II.22.35).
use Rattle.std.specs.Prelude.{ℕ, ◌==◌, List, Option, slice_get}
use Rattle.table_schema.specs.declared.table.TableId.{TableId}
use Rattle.table_schema.specs.declared.table.TableId.TheVariants.{EventMap, PropertyMap, MethodSemantics, Constant, ClassLayout, FieldLayout, FieldRVA, FieldMarshal, InterfaceImpl, GenericParam, GenericParamConstraint}
use Rattle.table_schema.specs.declared.token.Token.{Token}
use Rattle.table_schema.specs.CellColumns.{column_of}
use Rattle.metadata.specs.KeyOrder.{key_in, row_number}
use Rattle.metadata.specs.Metadata.{Metadata, count_in}
use Rattle.metadata.specs.Source.{number_of}
use Rattle.metadata.specs.SourceAt.{source_of}
use Rattle.metadata.specs.Valid.{kind_at}
use Rattle.opening.specs.Views.{row_count}
use Rattle.reading.specs.KeyRows.{rows_that}
use Rattle.navigation.specs.declared.keyed.KeyedRow.{KeyedRow}
use Rattle.navigation.specs.declared.links.Link.{Link}
use Rattle.navigation.specs.declared.links.Link.TheVariants as link_of
use Rattle.navigation.specs.Keyed.{AreByKey}

-- the table of the rows that refer, and the cell of the reference
abbrev pub table_of : Link → TableId
table_of link_of.Events = EventMap
table_of link_of.Properties = PropertyMap
table_of link_of.Accessors = MethodSemantics
table_of link_of.Constants = Constant
table_of link_of.TypeLayouts = ClassLayout
table_of link_of.FieldOffsets = FieldLayout
table_of link_of.FieldData = FieldRVA
table_of link_of.Marshalling = FieldMarshal
table_of link_of.Interfaces = InterfaceImpl
table_of link_of.GenericParams = GenericParam
table_of link_of.Constraints = GenericParamConstraint

abbrev pub cell_of : Link → ℕ
cell_of link_of.Events = 0
cell_of link_of.Properties = 0
cell_of link_of.Accessors = 2
cell_of link_of.Constants = 1
cell_of link_of.TypeLayouts = 2
cell_of link_of.FieldOffsets = 1
cell_of link_of.FieldData = 1
cell_of link_of.Marshalling = 0
cell_of link_of.Interfaces = 0
cell_of link_of.GenericParams = 2
cell_of link_of.Constraints = 0

-- the number of the reference of a row (II.24.2.6): in a root, and in a model
abbrev pub number_in : List ℕ → Link → ℕ → ℕ
number_in root of row = number_of (source_of root) (table_of of) row (column_of (table_of of) (cell_of of))

abbrev pub link_in : Metadata → Link → ℕ → ℕ
link_in model of row = key_in model (table_of of) (cell_of of) row

-- the number of a reference to a row
abbrev pub number_to : Link → Token → ℕ
number_to of token = row_number (kind_at (table_of of) (cell_of of)) token

-- the rows that refer to a row, in ascending order
unfoldable pub linked : Metadata → Link → Token → List ℕ
linked model of token = rows_that (λ row. link_in model of row == number_to of token) 1 (count_in model (table_of of))

-- the first row that refers to a row, if there is one: the one that is meant where a row has several
abbrev pub first_linked : Metadata → Link → Token → Option ℕ
first_linked model of token = slice_get (linked model of token) 0

-- these are the rows of the table that refers, in the order of what they refer to
abbrev pub AreReferences : List ℕ → Link → List KeyedRow → Type 0
AreReferences root of rows = AreByKey (number_in root of) 1 (row_count root (table_of of)) rows
