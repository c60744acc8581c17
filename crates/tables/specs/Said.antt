-- The content of cells, independent of memory layout (ECMA-335 II.22).
use Rattle.std.specs.Prelude.{List, map}
use Rattle.metadata.specs.Cell as says
use Rattle.metadata.specs.Cell.{Cell}
use Rattle.tables.specs.declared.cell.Cell.{Cell as Owned}
use Rattle.tables.specs.declared.cell.Cell.TheVariants.{Number, Text, Bytes, Guid, Ref, Start, Sig}

-- the cell in the terms of the definitions of metadata
abbrev pub said : Owned → Cell
said (Number number) = says.Number number
said (Text text) = says.Text text
said (Bytes bytes) = says.Bytes bytes
said (Guid guid) = says.Guid guid
said (Ref reference) = says.Ref reference
said (Start row) = says.Start row
said (Sig signature) = says.Sig signature

-- the cells of a row
abbrev pub all_said : List Owned → List Cell
all_said cells = map said cells
