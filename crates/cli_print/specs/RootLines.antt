-- What `clim root` prints: the headers of a file (ECMA-335 II.25.3.3, II.24.2.1 and II.24.2.2).
use Rattle.std.specs.Prelude.{ℕ, List, [], ◌∷◌, ◌++◌, codes, map, Option, None, Some}
use Rattle.cli_header.specs.declared.header.CliHeader.{CliHeader}
use Rattle.root.specs.Streams.{Header, RootRead}
use Rattle.cli_lines.specs.declared.names.Name.TheVariants as name
use Rattle.cli_lines.specs.Lines.{Part, word, field, opens, closes, number, hex, text}

-- the line of a CLI header: its runtime version, its flags and entry point, and the offset and size of the metadata root
unfoldable pub cli_line : CliHeader → List Part
cli_line header =
    opens name.Cli ∷ word (codes "cli ") ∷ field name.Major (number header.major_runtime_version) ∷ word (codes ".")
    ∷ field name.Minor (number header.minor_runtime_version) ∷ word (codes " flags ") ∷ field name.Flags (hex header.flags)
    ∷ word (codes " entry ") ∷ field name.Entry (hex header.entry_point_token) ∷ word (codes " root ")
    ∷ opens name.Root ∷ field name.Offset (number header.root.start) ∷ word (codes " ") ∷ field name.Size (number header.metadata.size)
    ∷ closes ∷ closes ∷ []

-- a CLI header, if there is one
abbrev pub header_lines : Option CliHeader → List (List Part)
header_lines None = []
header_lines (Some header) = cli_line header ∷ []

unfoldable pub version_line : List ℕ → List Part
version_line version = word (codes "version ") ∷ field name.Version (text version) ∷ []

-- the line of a stream header: the offset of its stream in the root, the size and the name
unfoldable pub stream_line : Header → List Part
stream_line header =
    opens name.Stream ∷ word (codes "stream ") ∷ field name.Offset (number header.offset) ∷ word (codes " ")
    ∷ field name.Size (number header.size) ∷ word (codes " ") ∷ field name.Name (text header.name) ∷ closes ∷ []

-- the CLI header unless the root is bare, the version, and the stream headers in file order
abbrev pub heads_lines : Option CliHeader → RootRead → List (List Part)
heads_lines header root = header_lines header ++ version_line root.version ∷ map stream_line root.headers
