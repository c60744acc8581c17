-- The rules for a root and for a file, from the first to the last (ECMA-335 II.22 to II.25). A rule applies only if all
-- rules before it hold. Each has a code, and the offset in the input that is reported if it is broken.
use Rattle.std.specs.Prelude.{◌≡◌, ℕ, ◌+◌, ◌-◌, ◌≤◌, ◌⊎◌, ⊤, Bool, true, false, List, [], ◌∷◌, ◌++◌, length, Option, Some, None}
use Rattle.packed.specs.declared.code.FaultCode.TheVariants.{BadTag, BadIndex, BadList, NotSorted, BadSignature, SignatureIndex, EntryPoint}
use Rattle.packed.specs.declared.fault.Fault.{Fault}
use Rattle.packed.specs.Rule.{Rule, rule, fault, rules_from, rules_if, rebased}
use Rattle.table_schema.specs.declared.table.TableId.{TableId}
use Rattle.table_schema.specs.declared.token.Token.{Token}
use Rattle.table_schema.specs.declared.coded.Coded.{Coded}
use Rattle.table_schema.specs.declared.column.SigKind.{SigKind}
use Rattle.table_schema.specs.declared.column.ColumnKind.{ColumnKind}
use Rattle.table_schema.specs.declared.column.ColumnKind.TheVariants as kind
use Rattle.table_schema.specs.Columns.{columns_of, column_at, key_of}
use Rattle.table_schema.specs.CodedIndexes.{IsCoded}
use Rattle.schema.specs.Rules.{rules_of_stream}
use Rattle.heap_entries.specs.Entries.{IsBlob}
use Rattle.heap_entries.specs.Rules.{rules_of_text, rules_of_blob, rules_of_guid}
use Rattle.root.specs.Rules.{rules_of_root}
use Rattle.pe.specs.Headers.{image_of}
use Rattle.pe.specs.Rules.{rules_of_image}
use Rattle.cli_header.specs.declared.header.CliHeader.{CliHeader}
use Rattle.cli_header.specs.Rules.{rules_of_cli_header}
use Rattle.cli_header.specs.Said.{header_of}
use Rattle.sig_grammar.specs.Syntax.{Body}
use Rattle.sig_grammar.specs.Encodes.{Encodes}
use Rattle.metadata.specs.Source.{Source, rows_in, number_of, IsThere}
use Rattle.metadata.specs.Streams.{root_in}
use Rattle.metadata.specs.Stands.{HasRows}
use Rattle.metadata.specs.Rows.{table_at}
use Rattle.metadata.specs.RowRules.{is_said_sorted}
use Rattle.metadata.specs.Links.{links_in}
use Rattle.metadata.specs.LinkRules.{Checked, rules_of_links}
use Rattle.metadata.specs.Model.{IsEntryPoint, has_native_entry_point}
use Rattle.metadata.specs.SourceAt.{SourceAt, cell_offset, tables_in, tables_offset, source_of, source_at}

-- ---- cells, without the contents of signatures

-- the row exists, or is null and the column allows null
abbrev pub MayRefer : Source → Bool → Token → Type 0
MayRefer source nullable token = ((token.row ≡ 0) × (nullable ≡ true)) ⊎ IsThere source token

-- the tag of the number is used
abbrev pub HasTag : Coded → ℕ → Type 0
HasTag coded number = (token : Token) × IsCoded coded number token.table token.row

-- the rules for a number in a column of a kind, at an offset (II.22)
abbrev pub rules_of_number : Source → ColumnKind → Bool → ℕ → ℕ → List (Rule Fault)
rules_of_number source kind.Text nullable number offset = rules_of_text source.texts number offset
rules_of_number source kind.Guid nullable number offset = rules_of_guid source.guids number offset
rules_of_number source kind.Blob nullable number offset = rules_of_blob source.blobs number offset
rules_of_number source (kind.Signature column) nullable number offset = rules_of_blob source.blobs number offset
rules_of_number source (kind.Row table) nullable number offset =
    rule (MayRefer source nullable (record { table = table; row = number })) BadIndex offset ∷ []
rules_of_number source (kind.Coded coded) nullable number offset =
    rule (HasTag coded number) BadTag offset
    ∷ rule ((token : Token) × IsCoded coded number token.table token.row × MayRefer source nullable token) BadIndex offset
    ∷ []
rules_of_number source (kind.List member) nullable number offset = rule (number ≤ rows_in source member + 1) BadList offset ∷ []
rules_of_number source _ nullable number offset = []

unfoldable pub rules_of_cell : SourceAt → TableId → ℕ → ℕ → List (Rule Fault)
rules_of_cell here table row column =
    rules_of_number here.source (column_at table column).kind (column_at table column).nullable
    (number_of here.source table row column) (cell_offset here table row column)

unfoldable pub rules_of_row : SourceAt → TableId → ℕ → List (Rule Fault)
rules_of_row here table row = rules_from (rules_of_cell here table row) 0 (length (columns_of table))

unfoldable pub rules_of_table : SourceAt → TableId → List (Rule Fault)
rules_of_table here table = rules_from (rules_of_row here table) 1 (rows_in here.source table)

unfoldable pub rules_of_table_at : SourceAt → ℕ → List (Rule Fault)
rules_of_table_at here table_index = rules_of_table here (table_at table_index)

-- the rules for all cells, by table, row and column
unfoldable pub rules_of_cells : SourceAt → List (Rule Fault)
rules_of_cells here = rules_from (rules_of_table_at here) 0 38

-- ---- the order of rows

-- the rule for a key: it is not lower than that of the row before (II.22)
unfoldable pub rules_of_key_in : SourceAt → TableId → ℕ → ℕ → List (Rule Fault)
rules_of_key_in here table key row =
    rule (number_of here.source table (row - 1) key ≤ number_of here.source table row key) NotSorted (cell_offset here table row key) ∷ []

unfoldable pub rules_of_keys : SourceAt → TableId → ℕ → List (Rule Fault)
rules_of_keys here table key = rules_from (rules_of_key_in here table key) 2 (rows_in here.source table - 1)

-- the rules for a table that Sorted claims to be sorted (II.24.2.6)
abbrev pub rules_of_order_by : SourceAt → TableId → Option ℕ → List (Rule Fault)
rules_of_order_by here table None = []
rules_of_order_by here table (Some key) = rules_if (is_said_sorted here.source table) (rules_of_keys here table key)

unfoldable pub rules_of_order_at : SourceAt → ℕ → List (Rule Fault)
rules_of_order_at here table_index = rules_of_order_by here (table_at table_index) (key_of (table_at table_index))

-- the rules for all tables
unfoldable pub rules_of_order : SourceAt → List (Rule Fault)
rules_of_order here = rules_from (rules_of_order_at here) 0 38

-- ---- the links between rows

-- the links of a root, and the fault at a cell
abbrev pub in_place : SourceAt → Checked Fault
in_place here = record { links = links_in here.source; error = λ code table row column. fault code (cell_offset here table row column) }

-- the rules for rows: their order, and their links
unfoldable pub rules_of_rows : SourceAt → List (Rule Fault)
rules_of_rows here = rules_of_order here ++ rules_of_links (in_place here)

-- ---- signatures

-- the blob encodes a signature with this property
abbrev pub HasSignature : Source → SigKind → ℕ → (Body → Type 0) → Type 0
HasSignature source column number P =
    (blob : List ℕ) × (signature : Body) × IsBlob source.blobs number blob × Encodes column signature blob × P signature

-- the rules for a signature's blob: it encodes a signature (II.23.2), and the type indexes in it refer to existing rows
abbrev pub rules_of_encoding : Source → ColumnKind → ℕ → ℕ → List (Rule Fault)
rules_of_encoding source (kind.Signature column) number offset =
    rule (HasSignature source column number (λ signature. ⊤)) BadSignature offset
    ∷ rule (HasSignature source column number (HasRows source)) SignatureIndex offset
    ∷ []
rules_of_encoding source _ number offset = []

unfoldable pub rules_of_signature : SourceAt → TableId → ℕ → ℕ → List (Rule Fault)
rules_of_signature here table row column =
    rules_of_encoding here.source (column_at table column).kind (number_of here.source table row column) (cell_offset here table row column)

unfoldable pub rules_of_signatures_in : SourceAt → TableId → ℕ → List (Rule Fault)
rules_of_signatures_in here table row = rules_from (rules_of_signature here table row) 0 (length (columns_of table))

unfoldable pub rules_of_signatures_of : SourceAt → TableId → List (Rule Fault)
rules_of_signatures_of here table = rules_from (rules_of_signatures_in here table) 1 (rows_in here.source table)

unfoldable pub rules_of_signatures_at : SourceAt → ℕ → List (Rule Fault)
rules_of_signatures_at here table_index = rules_of_signatures_of here (table_at table_index)

-- the rules for all signatures, by table, row and column
unfoldable pub rules_of_signatures : SourceAt → List (Rule Fault)
rules_of_signatures here = rules_from (rules_of_signatures_at here) 0 38

-- ---- the whole

-- the rules for the tables of a root
unfoldable pub rules_of_tables : SourceAt → List (Rule Fault)
rules_of_tables here =
    rules_of_cells here
    ++ (rules_of_rows here
    ++ rules_of_signatures here)

-- the rules for a root at offset `offset` of the input: its stream headers, its table stream, and its tables
unfoldable pub rules_of_metadata : ℕ → List ℕ → List (Rule Fault)
rules_of_metadata offset root =
    rebased offset (rules_of_root root)
    ++ (rebased (offset + tables_offset root) (rules_of_stream (tables_in root))
    ++ rules_of_tables (source_at offset root))

-- the rule for the entry point, unless it is native (II.25.3.3)
unfoldable pub rules_of_entry_point : CliHeader → Source → List (Rule Fault)
rules_of_entry_point header source =
    rule (has_native_entry_point header ≡ false → IsEntryPoint header.entry_point_token (rows_in source)) EntryPoint (header.place + 20) ∷ []

-- the rules for a file: its image, its CLI header, its root, and its entry point
unfoldable pub rules_of_file : List ℕ → List (Rule Fault)
rules_of_file file =
    rules_of_image file
    ++ (rules_of_cli_header (image_of file)
    ++ (rules_of_metadata (header_of (image_of file)).root.start (root_in file (header_of (image_of file)))
    ++ rules_of_entry_point (header_of (image_of file)) (source_of (root_in file (header_of (image_of file))))))
