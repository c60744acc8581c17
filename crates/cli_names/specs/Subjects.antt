-- The row that an argument means (ECMA-335 II.22.37, III.1.9).
use Rattle.std.specs.Prelude.{◌≡◌}
use Rattle.table_schema.specs.declared.table.TableId.TheVariants.{TypeDef}
use Rattle.table_schema.specs.declared.token.Token.{Token}
use Rattle.metadata.specs.Metadata.{Metadata}
use Rattle.metadata.specs.Lookups.{HasRow}
use Rattle.cli_names.specs.declared.subject.Subject.{Subject}
use Rattle.cli_names.specs.declared.subject.Subject.TheVariants.{Path, Row}
use Rattle.cli_names.specs.Paths.{IsMeant}

-- a row is the subject: that of the type that the path means, or the one with this token
abbrev pub IsSubject : Metadata → Subject → Token → Type 0
IsSubject model (Path path) of = (of.table ≡ TypeDef) × IsMeant model path.now of.row
IsSubject model (Row token) of = (of ≡ token) × HasRow model of.table of.row
