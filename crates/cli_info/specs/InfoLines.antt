-- What `clim info` prints of an assembly: what identifies it, what it is made for, and what it refers to (ECMA-335 II.22 and II.25.3.3).
use Rattle.std.specs.Prelude.{◌≡◌, ℕ, ◌+◌, ◌≤◌, ◌/◌, ◌%◌, ◌==◌, ◌&&◌, nat_le, nat_lt, if◌then◌else◌, List, [], ◌∷◌, ◌++◌, codes, length, Option, None, Some}
use Rattle.packed.specs.Number.{little_endian}
use Rattle.packed.specs.Offsets.{part}
use Rattle.pe.specs.Headers.{lfanew, magic, wider}
use Rattle.cli_header.specs.declared.header.CliHeader.{CliHeader}
use Rattle.table_schema.specs.declared.table.TableId.TheVariants as table
use Rattle.metadata.specs.Cell.{text_in, guid_in}
use Rattle.metadata.specs.Metadata.{Metadata, cell_in, count_in}
use Rattle.metadata.specs.Model.{IsModel, IsModelOfFile, has_native_entry_point}
use Rattle.cli_files.specs.declared.opened.Input.{Input}
use Rattle.cli_files.specs.declared.opened.Input.TheVariants.{BareRoot, File}
use Rattle.cli_lines.specs.declared.names.Name.TheVariants as name
use Rattle.cli_lines.specs.Lines.{Part, word, field, number, hex, plain, text, guid}
use Rattle.cli_print.specs.RootLines.{version_line}
use Rattle.cli_info.specs.Attributes.{attributes_lines}
use Rattle.cli_info.specs.Identities.{identity_lines}
use Rattle.cli_info.specs.declared.identities.Kind.TheVariants as kind

-- the bytes have this CLI header, which a bare root does not have, and this model
abbrev pub AreFacts : Input → List ℕ → Option CliHeader → Metadata → Type 0
AreFacts BareRoot bytes header model = (header ≡ None) × IsModel bytes model
AreFacts File bytes header model = (found : CliHeader) × (header ≡ Some found) × IsModelOfFile bytes found model

-- the name and the Mvid of a module (II.22.30)
unfoldable pub module_line : List ℕ → Option (List ℕ) → List Part
module_line of mvid = word (codes "module ") ∷ field name.Module (text of) ∷ word (codes " ") ∷ field name.Mvid (guid mvid) ∷ []

-- of the first row of Module, the only one that the standard allows, if there is one
abbrev pub module_lines : Metadata → List (List Part)
module_lines model =
    if nat_lt 0 (count_in model table.Module)
    then module_line (text_in (cell_in model table.Module 1 1)) (guid_in (cell_in model table.Module 1 2)) ∷ [] else []

-- ---- the headers of a file: the format and the machine (II.25.2), and the CLI header (II.25.3.3)

-- the MS-DOS header, the PE signature, the PE file header and fifteen data directories are in the file; for private clauses
abbrev pub HasRoom : List ℕ → Type 0
HasRoom file = (64 ≤ length file) × (lfanew file + 240 ≤ length file)

-- Machine (II.25.2.2)
abbrev pub machine : List ℕ → ℕ
machine file = little_endian (part file (lfanew file + 4) 2)

-- the format by Magic (II.25.2.3.1)
abbrev pub format_name : ℕ → List ℕ
format_name code = if code == 0x20B then codes "PE32+" else codes "PE32"

-- the size in the seventh data directory, that of debug data (II.25.2.3.3)
abbrev pub debug_size : List ℕ → ℕ
debug_size file = little_endian (part file (lfanew file + 172 + wider file) 4)

-- the names of the machines of .NET, from Microsoft's PE format
abbrev pub machine_word : ℕ → List ℕ
machine_word code =
    if code == 0x14C then codes " i386" else if code == 0x8664 then codes " amd64"
    else if code == 0x1C4 then codes " arm" else if code == 0xAA64 then codes " arm64" else []

-- the format by Magic, the machine, and the size of the debug directory, 0 if there is none
unfoldable pub image_line : ℕ → ℕ → ℕ → List Part
image_line code machine debug =
    word (codes "format ") ∷ field name.Format (plain (format_name code))
    ∷ word (codes " machine ") ∷ field name.Machine (hex machine) ∷ word (machine_word machine)
    ∷ word (codes " debug ") ∷ field name.Debug (number debug) ∷ []

-- a word, if the flag with this value is set
abbrev pub flag_word : ℕ → ℕ → List ℕ → List ℕ
flag_word flags flag of = if flags / flag % 2 == 1 then of else []

-- the flags of the runtime (II.25.3.3.1); the last word is Microsoft's
unfoldable pub flags_line : ℕ → List Part
flags_line flags =
    word (codes "flags ") ∷ field name.Flags (hex flags)
    ∷ word (flag_word flags 0x1 (codes " ILONLY")) ∷ word (flag_word flags 0x2 (codes " 32BITREQUIRED"))
    ∷ word (flag_word flags 0x8 (codes " STRONGNAMESIGNED")) ∷ word (flag_word flags 0x10 (codes " NATIVE_ENTRYPOINT"))
    ∷ word (flag_word flags 0x10000 (codes " TRACKDEBUGDATA")) ∷ word (flag_word flags 0x20000 (codes " 32BITPREFERRED")) ∷ []

-- the name of a method (II.22.26), and nothing if there is no such row
unfoldable pub method_name : ℕ → Metadata → List ℕ
method_name row model =
    if nat_le 1 row && nat_le row (count_in model table.MethodDef) then text_in (cell_in model table.MethodDef row 3) else []

-- the name of the method that is the entry point, unless this is native, or the token of a file
abbrev pub entry_name : CliHeader → Metadata → List ℕ
entry_name header model =
    if has_native_entry_point header then []
    else if header.entry_point_token / 0x1000000 == 0x06 then method_name (header.entry_point_token % 0x1000000) model else []

-- an entry point, and its name if it has one
unfoldable pub entry_line : ℕ → List ℕ → List Part
entry_line token [] = word (codes "entry ") ∷ field name.Entry (hex token) ∷ []
entry_line token of = word (codes "entry ") ∷ field name.Entry (hex token) ∷ word (codes " ") ∷ field name.Name (text of) ∷ []

-- the sizes of the strong name signature and of the managed native header, 0 if there is none
unfoldable pub sizes_line : CliHeader → List Part
sizes_line header =
    word (codes "signature ") ∷ field name.Signature (number header.strong_name_signature.size)
    ∷ word (codes " native ") ∷ field name.Native (number header.managed_native_header.size) ∷ []

-- the lines of a file with a CLI header, and none of a bare root
abbrev pub header_lines : List ℕ → Option CliHeader → Metadata → List (List Part)
header_lines file None model = []
header_lines file (Some header) model =
    image_line (magic file) (machine file) (debug_size file) ∷ flags_line header.flags
    ∷ entry_line header.entry_point_token (entry_name header model) ∷ sizes_line header ∷ []

-- ---- all lines

-- the numbers of types, methods, fields and resources
unfoldable pub counts_line : Metadata → List Part
counts_line model =
    word (codes "types ") ∷ field name.Types (number (count_in model table.TypeDef))
    ∷ word (codes " methods ") ∷ field name.Methods (number (count_in model table.MethodDef))
    ∷ word (codes " fields ") ∷ field name.Fields (number (count_in model table.Field))
    ∷ word (codes " resources ") ∷ field name.Resources (number (count_in model table.ManifestResource)) ∷ []

-- of the bytes of a file only those of its PE headers are looked at
abbrev pub info_lines : List ℕ → Option CliHeader → Metadata → List (List Part)
info_lines bytes header model =
    identity_lines kind.Assembly model ++ (module_lines model ++ (version_line model.version ∷ (header_lines bytes header model
    ++ (counts_line model ∷ (identity_lines kind.Reference model ++ attributes_lines model)))))
