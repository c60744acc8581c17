-- A metadata root, its streams and the row counts of its tables as structures, outermost first (ECMA-335 II.24.2).
use Rattle.std.specs.Prelude.{ℕ, ◌+◌, ◌-◌, min, Bool, if◌then◌else◌, List, [], ◌∷◌, ◌++◌, codes, length, map}
use Rattle.std.specs.List.{flat_map, list_any}
use Rattle.std.specs.Option.{option_map_or}
use Rattle.std.specs.Str.{bytes_eq}
use Rattle.root.specs.declared.kind.Kind.{Kind}
use Rattle.root.specs.declared.kind.Kind.TheVariants.{Tables, Strings, UserStrings, Guids, Blobs}
use Rattle.root.specs.Fields.{header_length, root_read, version_length}
use Rattle.root.specs.Streams.{Header, RootRead, range_of, stream_name}
use Rattle.table_schema.specs.declared.table.TableId.{TableId}
use Rattle.table_schema.specs.Tables.{tables, table_number, table_name}
use Rattle.schema.specs.Header.{has_bit, valid_of}
use Rattle.cli_faults.specs.Escaped.{escaped_text}
use Rattle.cli_faults.specs.Hexadecimal.{upper_hexadecimal}
use Rattle.cli_regions.specs.Regions.{Region, field_region, fields_from, header_regions, region}
use Rattle.cli_regions.specs.declared.fields.TheConstants.{AFTER_VERSION, BEFORE_NAME, BEFORE_VERSION, TABLE_STREAM}

-- a stream header and its fields, the last of which is its name, with its NUL and padding (II.24.2.2)
unfoldable pub stream_header_regions : ℕ → Header → List Region
stream_header_regions start header =
    header_regions (codes "stream header") (codes " " ++ escaped_text header.name) (start + header.place) (header_length header) (map (λ of. (of.0.now, of.1)) BEFORE_NAME)
    ++ region (start + header.place + 8) (header_length header - 8) (codes "stream header Name") ∷ []

-- the streams of the standard, in the order of the lines: heaps, and then the tables
abbrev pub streams : List Kind
streams = Strings ∷ UserStrings ∷ Guids ∷ Blobs ∷ Tables ∷ []

-- a stream of a root, if a header names it (II.24.2.2)
unfoldable pub stream_regions : ℕ → RootRead → Kind → List Region
stream_regions start root kind =
    option_map_or (λ range. region (start + range.0) (range.1 - range.0) (codes "stream" ++ codes " " ++ stream_name kind) ∷ []) (range_of root kind) []

-- the standard defines a stream of this name (II.24.2.2)
abbrev pub is_standard : List ℕ → Bool
is_standard name = list_any (λ kind. bytes_eq name (stream_name kind)) streams

-- A stream of another name, in a root of `size` bytes. The standard does not define its range, which can be outside the root:
-- it has the bytes that are within the root.
unfoldable pub other_stream_regions : ℕ → ℕ → Header → List Region
other_stream_regions start size header =
    if is_standard header.name then [] else (region (start + header.offset) (min header.size (size - header.offset)) (codes "stream" ++ (codes " " ++ escaped_text header.name)) ∷ [])

-- a table by its number and name (II.22)
abbrev pub table_words : TableId → List ℕ
table_words table = upper_hexadecimal (table_number table) ++ codes " " ++ table_name table

-- the number of bytes of a row count: none unless Valid names the table
abbrev pub count_size : ℕ → TableId → ℕ
count_size valid table = if has_bit valid table then 4 else 0

-- row counts that follow one another, the first at an offset
abbrev pub counts_from : ℕ → ℕ → List TableId → List Region
counts_from valid start [] = []
counts_from valid start (table ∷ more) =
    field_region start (count_size valid table) (codes "row count" ++ (codes " " ++ table_words table)) ∷ counts_from valid (start + count_size valid table) more

-- the fields of a table stream, and then the row counts of the tables that Valid names (II.24.2.6)
unfoldable pub table_stream_regions : ℕ → List ℕ → List Region
table_stream_regions start stream = fields_from (codes "table stream") start (map (λ of. (of.0.now, of.1)) TABLE_STREAM) ++ counts_from (valid_of stream) (start + 24) tables

-- a metadata root at an offset of the file, and its fields before the stream headers (II.24.2.1)
unfoldable pub root_header_regions : ℕ → List ℕ → List Region
root_header_regions start root =
    region start (length root) (codes "root")
    ∷ fields_from (codes "root header") start (map (λ of. (of.0.now, of.1)) BEFORE_VERSION)
    ++ region (start + 16) (version_length root) (codes "root header Version")
    ∷ fields_from (codes "root header") (start + 16 + version_length root) (map (λ of. (of.0.now, of.1)) AFTER_VERSION)

-- a metadata root: its header, its stream headers and its streams
abbrev pub root_regions : ℕ → List ℕ → List Region
root_regions start root =
    root_header_regions start root
    ++ flat_map (stream_header_regions start) (root_read root).headers
    ++ flat_map (other_stream_regions start (length root)) (root_read root).headers
    ++ flat_map (stream_regions start (root_read root)) streams
