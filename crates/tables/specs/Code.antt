-- How the logic stores the content of a row, of tables or of a model. There is nothing to believe here.
-- Any map serves that maps different values to different codes. This is proved below, and no clause uses more.
use Rattle.std.specs.Prelude.{◌≡◌, ℕ, List, refl}
use Rattle.std.specs.Coded.{Coded, code_by, coded×, coded_ℕ, coded_list}
use Rattle.metadata.specs.Cell.{Cell}
use Rattle.metadata.specs.Cell as says
use Rattle.metadata.specs.Metadata.{Metadata}
use Rattle.tables.specs.contracts.cell.Cell as owned
use Rattle.tables.specs.declared.cell.Cell.{Cell as Owned}
use Rattle.tables.specs.declared.cell.Cell.TheVariants.{Number, Text, Bytes, Guid, Ref, Start, Sig}
use Rattle.tables.specs.Said.{said}

-- the cell with this content
abbrev pub saying : Cell → Owned
saying (says.Number number) = Number number
saying (says.Text text) = Text text
saying (says.Bytes bytes) = Bytes bytes
saying (says.Guid guid) = Guid guid
saying (says.Ref reference) = Ref reference
saying (says.Start row) = Start row
saying (says.Sig signature) = Sig signature

pub said_saying : (cell : Cell) → said (saying cell) ≡ cell
said_saying (says.Number number) = refl
said_saying (says.Text text) = refl
said_saying (says.Bytes bytes) = refl
said_saying (says.Guid guid) = refl
said_saying (says.Ref reference) = refl
said_saying (says.Start row) = refl
said_saying (says.Sig signature) = refl

abbrev pub cell_code : Coded Cell
cell_code = code_by Owned owned.the_row.coded saying said said_saying

abbrev pub row_code : Coded (List Cell)
row_code = coded_list cell_code

abbrev pub rows_code : Coded (List (List Cell))
rows_code = coded_list row_code

abbrev pub metadata_code : Coded Metadata
metadata_code =
    code_by (List ℕ × (List ℕ × List (List (List Cell)))) (coded× (coded_list coded_ℕ) (coded× (coded_list coded_ℕ) (coded_list rows_code)))
    (λ m. (m.version, (m.user, m.tables))) (λ p. record { version = p.0; user = p.1.0; tables = p.1.1 }) (λ _. refl)
