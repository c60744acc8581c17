-- The parts of the program, as values of specs/.
use Rattle.std.specs.Prelude.{ℕ, List, Option}
use Rattle.std.specs.Borrow.{Bor}
use Rattle.std.specs.Option.{option_map}
use Rattle.cli_lines.specs.Lines as line
use Rattle.cli_lines.specs.Lines.{Part, Value}
use Rattle.cli_lines.specs.declared.parts.Part.{Part as KeptPart}
use Rattle.cli_lines.specs.declared.parts.Part.TheVariants.{Word, Field, Note, Member, Spaced, RowNumber, RowToken, Units, Open, Close}
use Rattle.cli_lines.specs.declared.parts.Value.{Value as KeptValue}
use Rattle.cli_lines.specs.declared.parts.Value.TheVariants.{Number, Hex, Byte, Text, Plain, Token, Reference, Quoted, Bytes, Guid, Start, Signature, Yes, Null}

-- the name of a file, if there is one
abbrev pub shown_file : Option (Bor (List ℕ)) → Option (List ℕ)
shown_file = option_map (λ name. name.now)

abbrev pub shown_value : KeptValue → Value
shown_value (Number n) = line.number n
shown_value (Hex n) = line.hex n
shown_value (Byte n) = line.byte n
shown_value (Text bytes) = line.text bytes.now
shown_value (Plain bytes) = line.plain bytes.now
shown_value (Token of) = line.token of
shown_value (Reference of) = line.reference of
shown_value (Quoted of) = line.quoted of.now
shown_value (Bytes of) = line.bytes of.now
shown_value (Guid of) = line.guid of
shown_value (Start n) = line.start n
shown_value (Signature blob text) = line.signature blob.now text.now
shown_value Yes = line.yes
shown_value Null = line.null

abbrev pub shown : KeptPart → Part
shown (Word bytes) = line.word bytes.now
shown (Field name value) = line.field name (shown_value value)
shown (Note value) = line.note (shown_value value)
shown (Member name value) = line.member name (shown_value value)
shown (Spaced name value) = line.spaced name (shown_value value)
shown (RowNumber of) = line.row_number of
shown (RowToken of) = line.row_token of
shown (Units string) = line.units string.now.units
shown (Open name) = line.opens name
shown Close = line.closes
