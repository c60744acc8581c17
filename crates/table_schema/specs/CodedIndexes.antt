-- Coded indexes (ECMA-335 II.24.2.6): the tables of each by tag, and the table and row that a number refers to.
use Rattle.std.specs.Prelude.{◌≡◌, ℕ, ◌+◌, ◌*◌, ◌^◌, List, [], ◌∷◌, Option, Some, None, slice_get}
use Rattle.table_schema.specs.declared.table.TableId.{TableId}
use Rattle.table_schema.specs.declared.table.TableId.TheVariants.{Module, TypeRef, TypeDef, Field, MethodDef, Param, InterfaceImpl, MemberRef, DeclSecurity, StandAloneSig, Event, Property, ModuleRef, TypeSpec, Assembly, AssemblyRef, File, ExportedType, ManifestResource, GenericParam, MethodSpec, GenericParamConstraint}
use Rattle.table_schema.specs.declared.coded.Coded.{Coded}
use Rattle.table_schema.specs.declared.coded.Coded.TheVariants as coded

-- the tables of each coded index by tag, from 0 on; None is an unused tag
abbrev pub tables_of : Coded → List (Option TableId)
tables_of coded.TypeDefOrRef = Some TypeDef ∷ Some TypeRef ∷ Some TypeSpec ∷ []
tables_of coded.HasConstant = Some Field ∷ Some Param ∷ Some Property ∷ []
tables_of coded.HasCustomAttribute = Some MethodDef ∷ Some Field ∷ Some TypeRef ∷ Some TypeDef ∷ Some Param ∷ Some InterfaceImpl ∷ Some MemberRef ∷ Some Module ∷ Some DeclSecurity ∷ Some Property ∷ Some Event ∷ Some StandAloneSig ∷ Some ModuleRef ∷ Some TypeSpec ∷ Some Assembly ∷ Some AssemblyRef ∷ Some File ∷ Some ExportedType ∷ Some ManifestResource ∷ Some GenericParam ∷ Some GenericParamConstraint ∷ Some MethodSpec ∷ []
tables_of coded.HasFieldMarshal = Some Field ∷ Some Param ∷ []
tables_of coded.HasDeclSecurity = Some TypeDef ∷ Some MethodDef ∷ Some Assembly ∷ []
tables_of coded.MemberRefParent = Some TypeDef ∷ Some TypeRef ∷ Some ModuleRef ∷ Some MethodDef ∷ Some TypeSpec ∷ []
tables_of coded.HasSemantics = Some Event ∷ Some Property ∷ []
tables_of coded.MethodDefOrRef = Some MethodDef ∷ Some MemberRef ∷ []
tables_of coded.MemberForwarded = Some Field ∷ Some MethodDef ∷ []
tables_of coded.Implementation = Some File ∷ Some AssemblyRef ∷ Some ExportedType ∷ []
tables_of coded.CustomAttributeType = None ∷ None ∷ Some MethodDef ∷ Some MemberRef ∷ None ∷ []
tables_of coded.ResolutionScope = Some Module ∷ Some ModuleRef ∷ Some AssemblyRef ∷ Some TypeRef ∷ []
tables_of coded.TypeOrMethodDef = Some TypeDef ∷ Some MethodDef ∷ []

-- the number of bits of the tag
abbrev pub tag_bits : Coded → ℕ
tag_bits coded.TypeDefOrRef = 2
tag_bits coded.HasConstant = 2
tag_bits coded.HasCustomAttribute = 5
tag_bits coded.HasFieldMarshal = 1
tag_bits coded.HasDeclSecurity = 2
tag_bits coded.MemberRefParent = 3
tag_bits coded.HasSemantics = 1
tag_bits coded.MethodDefOrRef = 1
tag_bits coded.MemberForwarded = 1
tag_bits coded.Implementation = 2
tag_bits coded.CustomAttributeType = 3
tag_bits coded.ResolutionScope = 2
tag_bits coded.TypeOrMethodDef = 1

-- the number refers to this row of this table: the row in the high bits, the tag of the table in the low bits
pub record IsCoded (coded : Coded) (number : ℕ) (table : TableId) (row : ℕ) : Type 0 where
  pub tag : ℕ
  pub listed : slice_get (tables_of coded) tag ≡ Some (Some table)
  pub equal : number ≡ row * 2 ^ tag_bits coded + tag
