-- The line of the number that a structure is, and of a cell what the number means (ECMA-335 II.22, II.24.2.6 and II.25).
use Rattle.std.specs.Prelude.{ℕ, ◌&&◌, nat_le, nat_lt, Bool, true, false, if◌then◌else◌, List, [], ◌∷◌, ◌++◌, Option, None}
use Rattle.std.specs.Option.{option_map_or}
use Rattle.cli_found.specs.Words.{ColumnKind, cell_count, TableCell, Metadata, cell_in, count_in, Part, spaced, Region, What, cell, scalar}
use Rattle.table_schema.specs.declared.column.ColumnKind.TheVariants as kind
use Rattle.cli_lines.specs.declared.names.Name.TheVariants as name
use Rattle.cli_cells.specs.RowLines.{cell_value}
use Rattle.cli_found.specs.Found.{coded_of, column_number, kind_of, last_of, value_line}
use Rattle.cli_found.specs.Kept.{lead_of}
use Rattle.cli_found.specs.declared.lines.Lead.{Lead}
use Rattle.cli_found.specs.Flags.{flag_parts, flags_at}

-- a cell whose number stands for something else
abbrev pub refers : ColumnKind → Bool
refers kind.U8 = false
refers kind.U16 = false
refers kind.U32 = false
refers kind.Padding = false
refers _ = true

-- the tables have such a cell
abbrev pub is_reference : Metadata → TableCell → Bool
is_reference model at =
    refers (kind_of at) && nat_le 1 at.row && nat_le at.row (count_in model at.table) && nat_lt (column_number at) (cell_count at.table)

-- what `show` prints of a cell, after a space; in JSON the member with the name of its column
abbrev pub reference : Metadata → TableCell → List Part
reference model at =
    if is_reference model at
    then spaced (name.Cell at.table (column_number at)) (cell_value (cell_in model at.table at.row (column_number at))) ∷ [] else []

-- the number that a cell or a field is, if it is one: padding is none (II.22.9)
abbrev pub cell_lead : List ℕ → Region → ColumnKind → Option Lead
cell_lead bytes of kind.Padding = None
cell_lead bytes of kind = lead_of bytes of.start of.size (coded_of kind)

abbrev pub lead_in : List ℕ → Region → What → Option Lead
lead_in bytes of (scalar words) = lead_of bytes of.start of.size None
lead_in bytes of (cell at) = cell_lead bytes of (kind_of at)
lead_in bytes of _ = None

-- what the number of a cell means: of flags their words, else what it refers to
abbrev pub meaning_in : Metadata → What → ℕ → List Part
meaning_in model (cell at) number =
    option_map_or (λ row. flag_parts (name.Cell at.table (column_number at)) row.2 number) (flags_at at.table at.column) (reference model at)
meaning_in model _ number = []

-- the line of a structure: the number after its offset, and what it means
abbrev pub lines_of : Metadata → List ℕ → Region → List (List Part)
lines_of model bytes of =
    option_map_or (λ lead. (value_line lead.offset lead.number lead.coded [] ++ meaning_in model of.what lead.number) ∷ []) (lead_in bytes of of.what) []

-- of structures, the outermost first, the line of the last one
abbrev pub value_lines : Metadata → List ℕ → List Region → List (List Part)
value_lines model bytes structures = option_map_or (lines_of model bytes) (last_of structures) []
