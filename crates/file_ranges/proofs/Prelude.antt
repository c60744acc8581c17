-- What several proofs of this crate name of std, of the crates below, and of its own definitions.
pub use Rattle.std.proofs.Common.{◌≡◌, ℕ, zero, suc, ◌+◌, ◌-◌, ◌/◌, ◌≤◌, ◌<◌, List, Some, None, length, sym, ap, ◌∙◌, arith, subst, inl, inr, refl, ◌^◌, rules, below_more, ◌==◌, cond, ltb, Option, true, ⊎_elim, [], ◌∷◌, take}
pub use Rattle.std.proofs.lemmas.Bool.{cond-false, cond-true, eq-eqb, false≢true, le-ltb, lt-ltb, ne_eqb}
pub use Rattle.cli_header.specs.declared.header.CliHeader.{CliHeader}
pub use Rattle.table_schema.specs.declared.table.TableId.TheVariants.{ClassLayout, MethodDef, ManifestResource}
pub use Rattle.metadata.specs.Source.{Source, rows_in}
unfoldable pub use Rattle.metadata.specs.Source.{number_of}
pub use Rattle.file_ranges.specs.Bodies.{data_size, byte_at}
unfoldable pub use Rattle.file_ranges.specs.Bodies.{data_end}
pub use Rattle.file_ranges.specs.ClassSizes.{AreParentsRising, IsSizeOf, MayHaveLayout, class_size, parent, AreSizes}
pub use Rattle.file_ranges.specs.Fields.{aligned, virtual_address}
pub use Rattle.file_ranges.specs.Occupied.{IsRowApart, IsLowest, IsCodeApart, IsDirectoryApart, IsSectionApart, AreBodiesApart, HasMetadata}
pub use Rattle.packed.specs.Fields.{Field, StandAt, AllSay, widths, literal}
pub use Rattle.packed.specs.Offsets.{part}
pub use Rattle.pe.specs.Headers.{image_of}
pub use Rattle.pe.specs.Image.{Image, IsImage}
pub use Rattle.pe.specs.Offset.{offset_at}
pub use Rattle.metadata.specs.Metadata.{Metadata, cell_in}
pub use Rattle.metadata.specs.Model.{IsModel}
pub use Rattle.file_ranges.specs.Resources.{IsDirectory, IsContent, IsLocation, IsStored, Where, here, elsewhere, HasByte, IsDirectoryOf, HasName}
pub use Rattle.file_ranges.specs.declared.directory.Directory.{Directory}
