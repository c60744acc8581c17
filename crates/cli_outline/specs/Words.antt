-- The words of other crates that this crate uses.
pub use Rattle.cli_declarations.specs.Layouts.{IsDeclared, is_declared_in}
pub use Rattle.cli_lines.specs.Lines.{Part, member, note, plain, text, token, word, style}
pub use Rattle.cli_lines.specs.Printed.{Printed, Prints, Asked}
pub use Rattle.cli_lines.specs.declared.parts.Form.TheVariants.{JsonLines, Text, Letters}
pub use Rattle.cli_names.specs.Chosen.{AreChosenBy, IsChosen, IsDescribing}
pub use Rattle.cli_names.specs.Orders.{Order, run_start, row_at, order_in, AreRowsIn, IsRowIn, rows_of}
pub use Rattle.cli_names.specs.Refs.{BelongsTo, HasSome, IsMeantRef, IsWantedRef, Wants}
pub use Rattle.cli_names.specs.Shown.{is_shown, shown_rows, has_line}
pub use Rattle.cli_names.specs.declared.source.OutlineOptions.{OutlineOptions}
pub use Rattle.cli_names.specs.declared.source.Sorting.TheVariants.{ByName, ByRow}
pub use Rattle.cli_names.specs.declared.source.Tokens.{Tokens}
pub use Rattle.cli_names.specs.declared.subject.Subject.{Subject}
pub use Rattle.cli_sending.specs.AsIs.{as_is}
pub use Rattle.metadata.specs.MemberLists.{member_of, owner_of}
pub use Rattle.metadata.specs.Metadata.{Metadata, cell_in, count_in}
pub use Rattle.metadata.specs.Model.{IsModel}
pub use Rattle.metadata.specs.declared.member_lists.MemberList.{MemberList}
pub use Rattle.navigation.specs.Linked.{linked, number_to, table_of}
pub use Rattle.opening.specs.Views.{row_count}
pub use Rattle.table_schema.specs.Tokens.{token_at}
pub use Rattle.table_schema.specs.declared.table.TableId.{TableId}
pub use Rattle.table_schema.specs.declared.table.TableId.TheVariants.{MethodSemantics, Field, MethodDef, Event, Property, TypeRef, MemberRef, Assembly, AssemblyRef, Module, ModuleRef, File, ManifestResource, ExportedType, TypeDef, InterfaceImpl, GenericParam, GenericParamConstraint, MethodImpl, ImplMap, DeclSecurity, CustomAttribute, Param}
pub use Rattle.table_schema.specs.declared.token.Token.{Token}
