-- The parts of the program, as values of specs/.
use Rattle.std.specs.Prelude.{◌<◌, List, [], ◌∷◌, ⊤}
use Rattle.cli_declarations.specs.Words.{TableId}
use Rattle.table_schema.specs.CellColumns.{cell_count}
use Rattle.cli_declarations.specs.Parts as part
use Rattle.cli_declarations.specs.Parts.{Part}
use Rattle.cli_declarations.specs.declared.layouts.Piece.{Piece}
use Rattle.cli_declarations.specs.declared.layouts.Piece.TheVariants.{Word as PlainWord, Flags, Text, Number, QuotedAfter, BytesAfter, Key, FirstBytes, Declaration, Own, After, EightDigits, GuidComment, Action, Linked, Listed}

abbrev pub shown : Piece → Part
shown (PlainWord of) = part.word of.now
shown (Flags of cell) = part.flags of cell
shown (Text cell) = part.text cell
shown (Number cell) = part.number cell
shown (QuotedAfter of cell) = part.quoted_after of.now cell
shown (BytesAfter of cell) = part.bytes_after of.now cell
shown (Key of cell) = part.key of cell
shown (FirstBytes cell) = part.first_bytes cell
shown Declaration = part.declaration
shown (Own how) = part.own how
shown (After of how cell) = part.row_after of.now how cell
shown (EightDigits cell) = part.eight_digits cell
shown (GuidComment cell) = part.guid_comment cell
shown (Action cell) = part.action cell
shown (Linked of) = part.linked_by of
shown (Listed of before after) = part.listed of before.now after.now

-- the cells of a part are in the rows of a table
abbrev pub IsWithin : TableId → Part → Type 0
IsWithin table (part.flags of cell) = cell < cell_count table
IsWithin table (part.text cell) = cell < cell_count table
IsWithin table (part.number cell) = cell < cell_count table
IsWithin table (part.quoted_after of cell) = cell < cell_count table
IsWithin table (part.bytes_after of cell) = cell < cell_count table
IsWithin table (part.key of cell) = (of < cell_count table) × (cell < cell_count table)
IsWithin table (part.first_bytes cell) = cell < cell_count table
IsWithin table (part.row_after of how cell) = cell < cell_count table
IsWithin table (part.eight_digits cell) = cell < cell_count table
IsWithin table (part.guid_comment cell) = cell < cell_count table
IsWithin table (part.action cell) = cell < cell_count table
IsWithin table _ = ⊤

abbrev pub AreWithin : TableId → List Part → Type 0
AreWithin table [] = ⊤
AreWithin table (first ∷ later) = IsWithin table first × AreWithin table later
