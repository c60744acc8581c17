-- The model of a root's bytes, and of a file's (ECMA-335 II.22 to II.25).
use Rattle.std.specs.Prelude.{◌≡◌, ℕ, ◌/◌, ◌%◌, ◌≤◌, ◌⊎◌, ◌==◌, ◌^◌, Bool, false, List, length}
use Rattle.root.specs.declared.kind.Kind.TheVariants.{Tables, UserStrings}
use Rattle.root.specs.Root.{IsRoot}
use Rattle.root.specs.Streams.{Header}
use Rattle.pe.specs.Image as pe
use Rattle.pe.specs.Image.{Image}
use Rattle.cli_header.specs.declared.header.CliHeader.{CliHeader}
use Rattle.cli_header.specs.Header.{IsCliHeader}
use Rattle.heap_entries.specs.Padding.{zero_padded}
use Rattle.table_schema.specs.declared.token.Token.{Token}
use Rattle.table_schema.specs.declared.table.TableId.{TableId}
use Rattle.table_schema.specs.declared.table.TableId.TheVariants.{MethodDef, File}
use Rattle.schema.specs.Sizes.{Sizes}
use Rattle.schema.specs.LaidOut.{IsLaidOut}
use Rattle.table_schema.specs.Tokens.{IsToken}
use Rattle.metadata.specs.Metadata.{Metadata, count_in}
use Rattle.metadata.specs.Rows.{AreTables}
use Rattle.metadata.specs.RowRules.{AreByKey}
use Rattle.metadata.specs.Links.{links_in, AreLinked}
use Rattle.metadata.specs.Streams.{stream_in, source_in, root_in}

-- The root has this model: it is a root with the model's version; its `#~` stream encodes numbers that represent the
-- model's cells; tables are sorted if Sorted claims it, each member has one owner, and types come after the types that
-- they are nested in; and the user bytes are those of `#US`, padded to a multiple of four.
pub record IsModel (root : List ℕ) (model : Metadata) : Type 0 where
  pub small : length root ≤ 2 ^ 30
  pub headers : List Header
  pub is_root : IsRoot root model.version headers
  pub sizes : Sizes
  pub numbers : List (List (List ℕ))
  pub laid_out : IsLaidOut (stream_in root headers Tables) sizes numbers
  pub cells : AreTables (source_in root headers sizes numbers) model.tables
  pub ordered : AreByKey (source_in root headers sizes numbers)
  pub linked : AreLinked (links_in (source_in root headers sizes numbers))
  pub user : model.user ≡ zero_padded (stream_in root headers UserStrings)

-- II.25.3.3.2: the entry point is 0, or the token of an existing row of MethodDef or File
abbrev pub IsEntryPoint : ℕ → (TableId → ℕ) → Type 0
IsEntryPoint entry count =
    (entry ≡ 0)
    ⊎ ((token : Token) × IsToken entry token × ((token.table ≡ MethodDef) ⊎ (token.table ≡ File)) × (1 ≤ token.row) × (token.row ≤ count token.table))

-- the flag of a native entry point (II.25.3.3.1), which is not a token
abbrev pub has_native_entry_point : CliHeader → Bool
has_native_entry_point header = header.flags / 0x10 % 2 == 1

-- The file has this CLI header and this model: it is an image with this header, the header's root has the model, and
-- the entry point is valid, unless it is native.
pub record IsModelOfFile (file : List ℕ) (header : CliHeader) (model : Metadata) : Type 0 where
  pub image : Image
  pub is_image : pe.IsImage file image
  pub is_header : IsCliHeader image header
  pub root : IsModel (root_in file header) model
  pub entry : has_native_entry_point header ≡ false → IsEntryPoint header.entry_point_token (count_in model)
