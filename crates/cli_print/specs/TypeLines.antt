-- What `clim types` prints: the types of a model, one on a line (ECMA-335 II.22.37).
use Rattle.std.specs.Prelude.{ℕ, ◌+◌, ◌-◌, nat_lt, if◌then◌else◌, List, [], ◌∷◌, codes, map}
use Rattle.std.specs.List.{range_with_len}
use Rattle.table_schema.specs.declared.table.TableId.{TableId}
use Rattle.table_schema.specs.declared.table.TableId.TheVariants.{TypeDef, Field, MethodDef}
use Rattle.table_schema.specs.declared.token.Token.{Token}
use Rattle.metadata.specs.Cell.{start_in, text_in}
use Rattle.metadata.specs.Metadata.{Metadata, cell_in, count_in}
use Rattle.cli_lines.specs.declared.names.Name.TheVariants as name
use Rattle.cli_lines.specs.Lines.{Part, word, field, number, text, token}

-- the number of a type's members: they begin at its cell with their start, and end before those of the next type
unfoldable pub member_count : Metadata → ℕ → TableId → ℕ → ℕ
member_count model cell_index member row =
    (if nat_lt row (count_in model TypeDef) then start_in (cell_in model TypeDef (row + 1) cell_index) else count_in model member + 1)
    - start_in (cell_in model TypeDef row cell_index)

-- a dot after a namespace
abbrev pub dot_after : List ℕ → List ℕ
dot_after [] = []
dot_after namespace = codes "."

-- the line of a type: its token; its namespace and its name; the numbers of its fields and methods
unfoldable pub parts_of_type : Token → List ℕ → List ℕ → ℕ → ℕ → List Part
parts_of_type row namespace own fields methods =
    field name.Token (token row) ∷ word (codes " ") ∷ field name.Namespace (text namespace) ∷ word (dot_after namespace) ∷ field name.Name (text own)
    ∷ word (codes " ") ∷ field name.Fields (number fields) ∷ word (codes " ") ∷ field name.Methods (number methods) ∷ []

abbrev pub type_line : Metadata → ℕ → List Part
type_line model row =
    parts_of_type (record { table = TypeDef; row = row }) (text_in (cell_in model TypeDef row 2)) (text_in (cell_in model TypeDef row 1))
    (member_count model 4 Field row) (member_count model 5 MethodDef row)

-- all types, in the order of their rows
abbrev pub types_lines : Metadata → List (List Part)
types_lines model = map (type_line model) (range_with_len 1 (count_in model TypeDef))
