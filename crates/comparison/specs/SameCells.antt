-- Whether two cells are equal (ECMA-335 II.22), as a test.
use Rattle.std.specs.Prelude.{◌==◌, Bool, false}
use Rattle.std.specs.Option.{option_eq}
use Rattle.std.specs.Str.{bytes_eq}
use Rattle.table_schema.specs.contracts.token.TokenPartialEq.TheImpl as tokens
use Rattle.sig_encoder.specs.Same.{is_same_body}
use Rattle.reading.specs.declared.cell_ref.CellRef.{CellRef}
use Rattle.reading.specs.declared.cell_ref.CellRef.TheVariants as seen
use Rattle.metadata.specs.Cell.{Cell, Number, Text, Bytes, Guid, Ref, Start, Sig}

-- both are of one kind, with the same content; it is true if and only if they are equal
abbrev pub is_same_cell : Cell → Cell → Bool
is_same_cell (Number m) (Number n) = m == n
is_same_cell (Text s) (Text t) = bytes_eq s t
is_same_cell (Bytes s) (Bytes t) = bytes_eq s t
is_same_cell (Guid g) (Guid h) = option_eq bytes_eq g h
is_same_cell (Ref t) (Ref u) = option_eq tokens.eq-value.it t u
is_same_cell (Start m) (Start n) = m == n
is_same_cell (Sig s) (Sig t) = is_same_body s t
is_same_cell _ _ = false

-- both values are signatures
abbrev pub AreSignatures : CellRef → CellRef → Type 0
AreSignatures (seen.Sig blob) (seen.Sig other) = Unit {0}
AreSignatures _ _ = ⊥
