-- The line of a row of each table, as a list of parts (ECMA-335 II.6 and II.10). A row of another table has no line.
use Rattle.std.specs.Prelude.{ℕ, ◌==◌, Bool, not, List, [], ◌∷◌, length, codes}
use Rattle.cli_declarations.specs.Words.{TableId, Assembly, AssemblyRef, Module, ModuleRef, File, ManifestResource, TypeDef, Field, MethodDef, InterfaceImpl, GenericParam, GenericParamConstraint, ExportedType, MethodImpl, MethodSemantics, Event, Property, ImplMap, DeclSecurity, CustomAttribute, TypeRef, MemberRef, Param, Token, Metadata}
use Rattle.type_heads.specs.declared.flag_words.FlagTable.TheVariants as table
use Rattle.navigation.specs.declared.links.Link.TheVariants as link
use Rattle.cli_declarations.specs.declared.layouts.Naming.TheVariants.{Token as OfToken, Name, Reference}
use Rattle.cli_declarations.specs.Texts.{AreTexts}
use Rattle.cli_declarations.specs.Parts.{IsPartText, Part, word, flags, text, number, quoted_after, bytes_after, key, first_bytes, declaration, own, row_after, eight_digits, guid_comment, action, linked_by, listed}

-- those of a row that describes another, and of an event and a property
abbrev pub describing_parts : TableId → List Part
-- II.10.1.7, II.22.20
describing_parts GenericParam =
    word (codes ".param type") ∷ flags table.Generic 1 ∷ word (codes " ") ∷ text 3 ∷ word (codes " [") ∷ number 0 ∷ word (codes "]") ∷ row_after (codes " of ") Name 2 ∷ []
-- II.10.1.7, II.22.21
describing_parts GenericParamConstraint = word (codes ".param constraint") ∷ row_after (codes " ") Name 0 ∷ row_after (codes " ") OfToken 0 ∷ row_after (codes ", ") Name 1 ∷ []
-- II.6.7, II.22.14
describing_parts ExportedType =
    word (codes ".class extern") ∷ flags table.Type 0 ∷ word (codes " ") ∷ own Name ∷ row_after (codes " in ") OfToken 4 ∷ row_after (codes " ") Name 4 ∷ []
-- II.10.3.2, II.22.27
describing_parts MethodImpl = word (codes ".override") ∷ row_after (codes " ") Reference 2 ∷ row_after (codes " with ") Reference 1 ∷ row_after (codes " in ") Name 0 ∷ []
-- II.18, II.22.13
describing_parts Event = word (codes "  .event") ∷ flags table.Mapped 0 ∷ row_after (codes " ") Name 2 ∷ word (codes " ") ∷ own Name ∷ []
-- II.17, II.22.34
describing_parts Property = word (codes "  .property") ∷ flags table.Mapped 0 ∷ word (codes " ") ∷ declaration ∷ linked_by link.Constants ∷ []
-- II.17, II.18, II.22.28
describing_parts MethodSemantics = word (codes "   ") ∷ flags table.Semantics 0 ∷ row_after (codes " ") Reference 1 ∷ row_after (codes " of ") Name 2 ∷ []
-- II.15.5.2, II.22.22
describing_parts ImplMap =
    word (codes ".pinvokeimpl(") ∷ row_after (codes "\"") Name 3 ∷ word (codes "\"") ∷ quoted_after (codes " as ") 2 ∷ flags table.Import 0 ∷ word (codes ")") ∷
    row_after (codes " of ") Name 1 ∷ []
-- II.20, II.22.11
describing_parts DeclSecurity = word (codes ".permissionset ") ∷ action 0 ∷ word (codes " = (") ∷ first_bytes 2 ∷ word (codes ")") ∷ row_after (codes " of ") Name 1 ∷ []
-- II.21, II.22.10
describing_parts CustomAttribute =
    word (codes ".custom") ∷ row_after (codes " ") Reference 1 ∷ declaration ∷ row_after (codes " of ") Reference 0 ∷ []
describing_parts _ = []

abbrev pub parts_of : TableId → List Part
-- II.6.2, II.22.2
parts_of Assembly =
    word (codes ".assembly") ∷ flags table.Assembly 5 ∷ word (codes " ") ∷ text 7 ∷
    word (codes " { .hash algorithm 0x") ∷ eight_digits 0 ∷ word (codes " .ver ") ∷ number 1 ∷ word (codes ":") ∷ number 2 ∷ word (codes ":") ∷ number 3 ∷ word (codes ":") ∷ number 4 ∷
    quoted_after (codes " .culture ") 8 ∷ bytes_after (codes " .publickey = ") 6 ∷ word (codes " }") ∷ []
-- II.6.3, II.22.5
parts_of AssemblyRef =
    word (codes ".assembly extern") ∷ flags table.Assembly 4 ∷ word (codes " ") ∷ text 6 ∷
    word (codes " { .ver ") ∷ number 0 ∷ word (codes ":") ∷ number 1 ∷ word (codes ":") ∷ number 2 ∷ word (codes ":") ∷ number 3 ∷
    quoted_after (codes " .culture ") 7 ∷ key 4 5 ∷ word (codes " }") ∷ []
-- II.6.4, II.22.30
parts_of Module = word (codes ".module ") ∷ text 1 ∷ guid_comment 2 ∷ []
-- II.6.5, II.22.31
parts_of ModuleRef = word (codes ".module extern ") ∷ text 0 ∷ []
-- II.6.2.3, II.22.19
parts_of File = word (codes ".file") ∷ flags table.File 0 ∷ word (codes " ") ∷ text 1 ∷ []
-- II.6.2.2, II.22.24
parts_of ManifestResource = word (codes ".mresource") ∷ flags table.Resource 1 ∷ word (codes " ") ∷ text 2 ∷ []
-- II.10.1, II.10.2, II.10.7, II.12.2, II.22.37
parts_of TypeDef =
    word (codes ".class") ∷ flags table.Type 0 ∷ word (codes " ") ∷ own Name ∷ listed link.GenericParams (codes "<") (codes ">") ∷ row_after (codes " extends ") Name 3 ∷
    listed link.Interfaces (codes " implements ") [] ∷ linked_by link.TypeLayouts ∷ []
-- II.16.1, II.22.15
parts_of Field =
    word (codes "  .field") ∷ linked_by link.FieldOffsets ∷ flags table.Field 0 ∷ linked_by link.Marshalling ∷ word (codes " ") ∷ declaration ∷
    word (codes " ") ∷ own Name ∷ linked_by link.Constants ∷ linked_by link.FieldData ∷ []
-- II.15.4, II.22.26
parts_of MethodDef = word (codes "  .method") ∷ flags table.Method 2 ∷ word (codes " ") ∷ declaration ∷ flags table.Implementation 1 ∷ []
-- II.15.4.1.4, II.22.33
parts_of Param = word (codes ".") ∷ own Reference ∷ linked_by link.Constants ∷ []
-- II.12.2, II.22.23
parts_of InterfaceImpl = word (codes ".interfaceimpl type") ∷ row_after (codes " ") Name 0 ∷ row_after (codes " implements ") Name 1 ∷ []
-- II.7.3, II.22.38
parts_of TypeRef = word (codes ".typeref ") ∷ own Name ∷ []
-- II.15.3, II.22.25
parts_of MemberRef = word (codes ".memberref ") ∷ own Reference ∷ []
parts_of table = describing_parts table

-- the declaration of a row: the texts of its parts
abbrev pub IsDeclared : Metadata → Token → List ℕ → Type 0
IsDeclared model of whole = AreTexts (IsPartText model of.table of.row) (parts_of of.table) whole

-- the rows of a table have declarations
abbrev pub is_declared_in : TableId → Bool
is_declared_in table = not (length (parts_of table) == 0)
