-- The columns of the tables (ECMA-335 II.22).
use Rattle.std.specs.Prelude.{◌≡◌, ◌⊎◌, ℕ, true, false, List, [], ◌∷◌, Option, Some, None, slice_get, slice_index_or}
use Rattle.table_schema.specs.declared.table.TableId.{TableId}
use Rattle.table_schema.specs.declared.table.TableId.TheVariants.{Module, TypeRef, TypeDef, Field, MethodDef, Param, InterfaceImpl, MemberRef, Constant, CustomAttribute, FieldMarshal, DeclSecurity, ClassLayout, FieldLayout, StandAloneSig, EventMap, Event, PropertyMap, Property, MethodSemantics, MethodImpl, ModuleRef, TypeSpec, ImplMap, FieldRVA, Assembly, AssemblyProcessor, AssemblyOS, AssemblyRef, AssemblyRefProcessor, AssemblyRefOS, File, ExportedType, ManifestResource, NestedClass, GenericParam, MethodSpec, GenericParamConstraint}
use Rattle.table_schema.specs.declared.column.SigKind.TheVariants as signature
use Rattle.table_schema.specs.declared.coded.Coded.{Coded}
use Rattle.table_schema.specs.declared.coded.Coded.TheVariants as coded
use Rattle.table_schema.specs.declared.column.ColumnKind.{ColumnKind}
use Rattle.table_schema.specs.declared.column.ColumnKind.TheVariants as kind
use Rattle.table_schema.specs.declared.column.Column.{Column}
use Rattle.table_schema.specs.CodedIndexes.{tables_of}

-- a column that does not allow null, and one that does
abbrev pub col : ColumnKind → Column
col kind = record { kind = kind; nullable = false }

abbrev pub nullable : ColumnKind → Column
nullable kind = record { kind = kind; nullable = true }

-- the columns of each table, in order (II.22)
abbrev pub columns_of : TableId → List Column
columns_of Module = col kind.U16 ∷ col kind.Text ∷ col kind.Guid ∷ col kind.Guid ∷ col kind.Guid ∷ []
columns_of TypeRef = nullable (kind.Coded coded.ResolutionScope) ∷ col kind.Text ∷ col kind.Text ∷ []
columns_of TypeDef = col kind.U32 ∷ col kind.Text ∷ col kind.Text ∷ nullable (kind.Coded coded.TypeDefOrRef) ∷ col (kind.List Field) ∷ col (kind.List MethodDef) ∷ []
columns_of Field = col kind.U16 ∷ col kind.Text ∷ col (kind.Signature signature.Field) ∷ []
columns_of MethodDef = col kind.U32 ∷ col kind.U16 ∷ col kind.U16 ∷ col kind.Text ∷ col (kind.Signature signature.MethodDef) ∷ col (kind.List Param) ∷ []
columns_of Param = col kind.U16 ∷ col kind.U16 ∷ col kind.Text ∷ []
columns_of InterfaceImpl = col (kind.Row TypeDef) ∷ col (kind.Coded coded.TypeDefOrRef) ∷ []
columns_of MemberRef = col (kind.Coded coded.MemberRefParent) ∷ col kind.Text ∷ col (kind.Signature signature.MemberRef) ∷ []
columns_of Constant = col kind.U8 ∷ col kind.Padding ∷ col (kind.Coded coded.HasConstant) ∷ col kind.Blob ∷ []
columns_of CustomAttribute = col (kind.Coded coded.HasCustomAttribute) ∷ col (kind.Coded coded.CustomAttributeType) ∷ col kind.Blob ∷ []
columns_of FieldMarshal = col (kind.Coded coded.HasFieldMarshal) ∷ col kind.Blob ∷ []
columns_of DeclSecurity = col kind.U16 ∷ col (kind.Coded coded.HasDeclSecurity) ∷ col kind.Blob ∷ []
columns_of ClassLayout = col kind.U16 ∷ col kind.U32 ∷ col (kind.Row TypeDef) ∷ []
columns_of FieldLayout = col kind.U32 ∷ col (kind.Row Field) ∷ []
columns_of StandAloneSig = col (kind.Signature signature.StandAlone) ∷ []
columns_of EventMap = col (kind.Row TypeDef) ∷ col (kind.List Event) ∷ []
columns_of Event = col kind.U16 ∷ col kind.Text ∷ nullable (kind.Coded coded.TypeDefOrRef) ∷ []
columns_of PropertyMap = col (kind.Row TypeDef) ∷ col (kind.List Property) ∷ []
columns_of Property = col kind.U16 ∷ col kind.Text ∷ col (kind.Signature signature.Property) ∷ []
columns_of MethodSemantics = col kind.U16 ∷ col (kind.Row MethodDef) ∷ col (kind.Coded coded.HasSemantics) ∷ []
columns_of MethodImpl = col (kind.Row TypeDef) ∷ col (kind.Coded coded.MethodDefOrRef) ∷ col (kind.Coded coded.MethodDefOrRef) ∷ []
columns_of ModuleRef = col kind.Text ∷ []
columns_of TypeSpec = col (kind.Signature signature.TypeSpec) ∷ []
columns_of ImplMap = col kind.U16 ∷ col (kind.Coded coded.MemberForwarded) ∷ col kind.Text ∷ col (kind.Row ModuleRef) ∷ []
columns_of FieldRVA = col kind.U32 ∷ col (kind.Row Field) ∷ []
columns_of Assembly = col kind.U32 ∷ col kind.U16 ∷ col kind.U16 ∷ col kind.U16 ∷ col kind.U16 ∷ col kind.U32 ∷ col kind.Blob ∷ col kind.Text ∷ col kind.Text ∷ []
columns_of AssemblyProcessor = col kind.U32 ∷ []
columns_of AssemblyOS = col kind.U32 ∷ col kind.U32 ∷ col kind.U32 ∷ []
columns_of AssemblyRef = col kind.U16 ∷ col kind.U16 ∷ col kind.U16 ∷ col kind.U16 ∷ col kind.U32 ∷ col kind.Blob ∷ col kind.Text ∷ col kind.Text ∷ col kind.Blob ∷ []
columns_of AssemblyRefProcessor = col kind.U32 ∷ col (kind.Row AssemblyRef) ∷ []
columns_of AssemblyRefOS = col kind.U32 ∷ col kind.U32 ∷ col kind.U32 ∷ col (kind.Row AssemblyRef) ∷ []
columns_of File = col kind.U32 ∷ col kind.Text ∷ col kind.Blob ∷ []
columns_of ExportedType = col kind.U32 ∷ col kind.U32 ∷ col kind.Text ∷ col kind.Text ∷ nullable (kind.Coded coded.Implementation) ∷ []
columns_of ManifestResource = col kind.U32 ∷ col kind.U32 ∷ col kind.Text ∷ nullable (kind.Coded coded.Implementation) ∷ []
columns_of NestedClass = col (kind.Row TypeDef) ∷ col (kind.Row TypeDef) ∷ []
columns_of GenericParam = col kind.U16 ∷ col kind.U16 ∷ col (kind.Coded coded.TypeOrMethodDef) ∷ col kind.Text ∷ []
columns_of MethodSpec = col (kind.Coded coded.MethodDefOrRef) ∷ col (kind.Signature signature.Instance) ∷ []
columns_of GenericParamConstraint = col (kind.Row GenericParam) ∷ col (kind.Coded coded.TypeDefOrRef) ∷ []

-- the column with an index
abbrev pub column_at : TableId → ℕ → Column
column_at table index = slice_index_or (columns_of table) index (col kind.U8)

-- the column refers to rows, by a simple or a coded index
abbrev pub IsReference : Column → Type 0
IsReference column = ((table : TableId) × (column.kind ≡ kind.Row table)) ⊎ ((coded : Coded) × (column.kind ≡ kind.Coded coded))

-- the column is a coded index with a table for tag 0, so that the number 0 is null
pub record MayBeNull (column : Column) : Type 0 where
  pub coded : Coded
  pub first : TableId
  pub is : column.kind ≡ kind.Coded coded
  pub used : slice_get (tables_of coded) 0 ≡ Some (Some first)

-- the column by which the rows of a table are sorted (II.22)
abbrev pub key_of : TableId → Option ℕ
key_of InterfaceImpl = Some 0
key_of Constant = Some 2
key_of CustomAttribute = Some 0
key_of FieldMarshal = Some 0
key_of DeclSecurity = Some 1
key_of ClassLayout = Some 2
key_of FieldLayout = Some 1
key_of MethodSemantics = Some 2
key_of MethodImpl = Some 0
key_of ImplMap = Some 1
key_of FieldRVA = Some 1
key_of NestedClass = Some 0
key_of GenericParam = Some 2
key_of GenericParamConstraint = Some 0
key_of Module = None
key_of TypeRef = None
key_of TypeDef = None
key_of Field = None
key_of MethodDef = None
key_of Param = None
key_of MemberRef = None
key_of StandAloneSig = None
key_of EventMap = None
key_of Event = None
key_of PropertyMap = None
key_of Property = None
key_of ModuleRef = None
key_of TypeSpec = None
key_of Assembly = None
key_of AssemblyProcessor = None
key_of AssemblyOS = None
key_of AssemblyRef = None
key_of AssemblyRefProcessor = None
key_of AssemblyRefOS = None
key_of File = None
key_of ExportedType = None
key_of ManifestResource = None
key_of MethodSpec = None
