-- The metadata tables (ECMA-335 II.22): their numbers, names and order.
use Rattle.std.specs.Prelude.{ℕ, List, [], ◌∷◌, codes}
use Rattle.table_schema.specs.declared.table.TableId.{TableId}
use Rattle.table_schema.specs.declared.table.TableId.TheVariants.{Module, TypeRef, TypeDef, Field, MethodDef, Param, InterfaceImpl, MemberRef, Constant, CustomAttribute, FieldMarshal, DeclSecurity, ClassLayout, FieldLayout, StandAloneSig, EventMap, Event, PropertyMap, Property, MethodSemantics, MethodImpl, ModuleRef, TypeSpec, ImplMap, FieldRVA, Assembly, AssemblyProcessor, AssemblyOS, AssemblyRef, AssemblyRefProcessor, AssemblyRefOS, File, ExportedType, ManifestResource, NestedClass, GenericParam, MethodSpec, GenericParamConstraint}

-- the number of each table
abbrev pub table_number : TableId → ℕ
table_number Module = 0x00
table_number TypeRef = 0x01
table_number TypeDef = 0x02
table_number Field = 0x04
table_number MethodDef = 0x06
table_number Param = 0x08
table_number InterfaceImpl = 0x09
table_number MemberRef = 0x0A
table_number Constant = 0x0B
table_number CustomAttribute = 0x0C
table_number FieldMarshal = 0x0D
table_number DeclSecurity = 0x0E
table_number ClassLayout = 0x0F
table_number FieldLayout = 0x10
table_number StandAloneSig = 0x11
table_number EventMap = 0x12
table_number Event = 0x14
table_number PropertyMap = 0x15
table_number Property = 0x17
table_number MethodSemantics = 0x18
table_number MethodImpl = 0x19
table_number ModuleRef = 0x1A
table_number TypeSpec = 0x1B
table_number ImplMap = 0x1C
table_number FieldRVA = 0x1D
table_number Assembly = 0x20
table_number AssemblyProcessor = 0x21
table_number AssemblyOS = 0x22
table_number AssemblyRef = 0x23
table_number AssemblyRefProcessor = 0x24
table_number AssemblyRefOS = 0x25
table_number File = 0x26
table_number ExportedType = 0x27
table_number ManifestResource = 0x28
table_number NestedClass = 0x29
table_number GenericParam = 0x2A
table_number MethodSpec = 0x2B
table_number GenericParamConstraint = 0x2C

-- the name of each table
abbrev pub table_name : TableId → List ℕ
table_name Module = codes "Module"
table_name TypeRef = codes "TypeRef"
table_name TypeDef = codes "TypeDef"
table_name Field = codes "Field"
table_name MethodDef = codes "MethodDef"
table_name Param = codes "Param"
table_name InterfaceImpl = codes "InterfaceImpl"
table_name MemberRef = codes "MemberRef"
table_name Constant = codes "Constant"
table_name CustomAttribute = codes "CustomAttribute"
table_name FieldMarshal = codes "FieldMarshal"
table_name DeclSecurity = codes "DeclSecurity"
table_name ClassLayout = codes "ClassLayout"
table_name FieldLayout = codes "FieldLayout"
table_name StandAloneSig = codes "StandAloneSig"
table_name EventMap = codes "EventMap"
table_name Event = codes "Event"
table_name PropertyMap = codes "PropertyMap"
table_name Property = codes "Property"
table_name MethodSemantics = codes "MethodSemantics"
table_name MethodImpl = codes "MethodImpl"
table_name ModuleRef = codes "ModuleRef"
table_name TypeSpec = codes "TypeSpec"
table_name ImplMap = codes "ImplMap"
table_name FieldRVA = codes "FieldRVA"
table_name Assembly = codes "Assembly"
table_name AssemblyProcessor = codes "AssemblyProcessor"
table_name AssemblyOS = codes "AssemblyOS"
table_name AssemblyRef = codes "AssemblyRef"
table_name AssemblyRefProcessor = codes "AssemblyRefProcessor"
table_name AssemblyRefOS = codes "AssemblyRefOS"
table_name File = codes "File"
table_name ExportedType = codes "ExportedType"
table_name ManifestResource = codes "ManifestResource"
table_name NestedClass = codes "NestedClass"
table_name GenericParam = codes "GenericParam"
table_name MethodSpec = codes "MethodSpec"
table_name GenericParamConstraint = codes "GenericParamConstraint"

-- all tables, in the order of their numbers
unfoldable pub tables : List TableId
tables =
    Module ∷
    TypeRef ∷
    TypeDef ∷
    Field ∷
    MethodDef ∷
    Param ∷
    InterfaceImpl ∷
    MemberRef ∷
    Constant ∷
    CustomAttribute ∷
    FieldMarshal ∷
    DeclSecurity ∷
    ClassLayout ∷
    FieldLayout ∷
    StandAloneSig ∷
    EventMap ∷
    Event ∷
    PropertyMap ∷
    Property ∷
    MethodSemantics ∷
    MethodImpl ∷
    ModuleRef ∷
    TypeSpec ∷
    ImplMap ∷
    FieldRVA ∷
    Assembly ∷
    AssemblyProcessor ∷
    AssemblyOS ∷
    AssemblyRef ∷
    AssemblyRefProcessor ∷
    AssemblyRefOS ∷
    File ∷
    ExportedType ∷
    ManifestResource ∷
    NestedClass ∷
    GenericParam ∷
    MethodSpec ∷
    GenericParamConstraint ∷ []

-- the table index: the number of tables with a lower number
abbrev pub table_index_of : TableId → ℕ
table_index_of Module = 0
table_index_of TypeRef = 1
table_index_of TypeDef = 2
table_index_of Field = 3
table_index_of MethodDef = 4
table_index_of Param = 5
table_index_of InterfaceImpl = 6
table_index_of MemberRef = 7
table_index_of Constant = 8
table_index_of CustomAttribute = 9
table_index_of FieldMarshal = 10
table_index_of DeclSecurity = 11
table_index_of ClassLayout = 12
table_index_of FieldLayout = 13
table_index_of StandAloneSig = 14
table_index_of EventMap = 15
table_index_of Event = 16
table_index_of PropertyMap = 17
table_index_of Property = 18
table_index_of MethodSemantics = 19
table_index_of MethodImpl = 20
table_index_of ModuleRef = 21
table_index_of TypeSpec = 22
table_index_of ImplMap = 23
table_index_of FieldRVA = 24
table_index_of Assembly = 25
table_index_of AssemblyProcessor = 26
table_index_of AssemblyOS = 27
table_index_of AssemblyRef = 28
table_index_of AssemblyRefProcessor = 29
table_index_of AssemblyRefOS = 30
table_index_of File = 31
table_index_of ExportedType = 32
table_index_of ManifestResource = 33
table_index_of NestedClass = 34
table_index_of GenericParam = 35
table_index_of MethodSpec = 36
table_index_of GenericParamConstraint = 37
