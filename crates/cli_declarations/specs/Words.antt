-- The words of other crates that this crate uses.
pub use Rattle.blob_values.specs.Values.{AttributeValue}
pub use Rattle.declarations.specs.Descriptors.{descriptor_in, descriptor_text}
pub use Rattle.full_names.specs.Quoted.{name_text, quoted_bytes}
pub use Rattle.full_names.specs.declared.quoted.NameKind.TheVariants.{Dotted}
pub use Rattle.metadata.specs.Cell.{Cell, Sig, number_in, text_in, bytes_in, guid_in, reference_in}
pub use Rattle.metadata.specs.Lookups.{HasRow}
pub use Rattle.metadata.specs.Metadata.{Metadata, cell_in, count_in}
pub use Rattle.metadata.specs.Model.{IsModel}
pub use Rattle.navigation.specs.Linked.{first_linked, linked, table_of}
pub use Rattle.opening.specs.Views.{row_count}
pub use Rattle.table_schema.specs.Tokens.{hexadecimal, token_at, token_text}
pub use Rattle.table_schema.specs.declared.table.TableId.{TableId}
pub use Rattle.table_schema.specs.declared.table.TableId.TheVariants.{Assembly, AssemblyRef, Module, ModuleRef, File, ManifestResource, TypeDef, Field, MethodDef, InterfaceImpl, GenericParam, GenericParamConstraint, ExportedType, MethodImpl, MethodSemantics, Event, Property, ImplMap, DeclSecurity, CustomAttribute, TypeRef, MemberRef, Param, Constant, ClassLayout, FieldLayout, FieldRVA, FieldMarshal}
pub use Rattle.table_schema.specs.declared.token.Token.{Token}
pub use Rattle.type_heads.specs.FlagWords.{words_of, words_text, shown_word, word_text}
