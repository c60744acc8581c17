-- The names of members.
use Rattle.std.specs.Prelude.{ℕ, List, [], ◌∷◌, ◌++◌, codes, map, slice_index_or}
use Rattle.std.specs.List.{range_with_len}
use Rattle.json.specs.Print.{quoted}
use Rattle.schema.specs.ColumnNames.{column_names_of}
use Rattle.table_schema.specs.declared.table.TableId.{TableId}
use Rattle.table_schema.specs.Tables.{table_name}
use Rattle.table_schema.specs.CellColumns.{cell_count, column_of}
use Rattle.cli_lines.specs.declared.names.Name.{Name}
use Rattle.cli_lines.specs.declared.names.Name.TheVariants as name

-- the name of a cell's column (ECMA-335 II.22)
abbrev pub column_name : TableId → ℕ → List ℕ
column_name table index = slice_index_or (column_names_of table) (column_of table index) []

-- the names of the cells of a table
abbrev pub cell_names : TableId → List (List ℕ)
cell_names table = map (column_name table) (range_with_len 0 (cell_count table))

abbrev pub name_text : Name → List ℕ
name_text (name.Cell table index) = slice_index_or (cell_names table) index []
name_text name.Assembly = codes "assembly"
name_text name.Blob = codes "blob"
name_text name.Build = codes "build"
name_text name.Cause = codes "cause"
name_text name.Cli = codes "cli"
name_text name.Code = codes "code"
name_text name.Column = codes "column"
name_text name.Culture = codes "culture"
name_text name.Debug = codes "debug"
name_text name.Difference = codes "difference"
name_text name.Digest = codes "digest"
name_text name.Directive = codes "directive"
name_text name.Entry = codes "entry"
name_text name.Equal = codes "equal"
name_text name.Fields = codes "fields"
name_text name.File = codes "file"
name_text name.Flag = codes "flag"
name_text name.Flags = codes "flags"
name_text name.Format = codes "format"
name_text name.Layer = codes "layer"
name_text name.Left = codes "left"
name_text name.Length = codes "length"
name_text name.Limit = codes "limit"
name_text name.Machine = codes "machine"
name_text name.Major = codes "major"
name_text name.Methods = codes "methods"
name_text name.Minor = codes "minor"
name_text name.Module = codes "module"
name_text name.Mvid = codes "mvid"
name_text name.Name = codes "name"
name_text name.Namespace = codes "namespace"
name_text name.Native = codes "native"
name_text name.Offset = codes "offset"
name_text name.Ok = codes "ok"
name_text name.Reference = codes "reference"
name_text name.Resource = codes "resource"
name_text name.Resources = codes "resources"
name_text name.Revision = codes "revision"
name_text name.Right = codes "right"
name_text name.Root = codes "root"
name_text name.Row = codes "row"
name_text name.Rule = codes "rule"
name_text name.Section = codes "section"
name_text name.Signature = codes "signature"
name_text name.Size = codes "size"
name_text name.Stream = codes "stream"
name_text name.Structure = codes "structure"
name_text name.Summary = codes "summary"
name_text name.Table = codes "table"
name_text name.Text = codes "text"
name_text name.Token = codes "token"
name_text name.Type = codes "type"
name_text name.Types = codes "types"
name_text name.Units = codes "units"
name_text name.Value = codes "value"
name_text name.Version = codes "version"
name_text name.Visibility = codes "visibility"

-- the name of a table, and the name of the next member of its row
abbrev pub row_start : TableId → List ℕ
row_start table = quoted (table_name table) ++ codes ",\"row\":"

-- a name after a comma and before a colon, as it follows another member
abbrev pub key_text : List ℕ → List ℕ
key_text of = 44 ∷ (quoted of ++ 58 ∷ [])

-- a name between a space and an equals sign, as before a cell in a line of text
abbrev pub label_text : List ℕ → List ℕ
label_text of = 32 ∷ (of ++ 61 ∷ [])
