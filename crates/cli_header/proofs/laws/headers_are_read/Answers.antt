use Rattle.cli_header.proofs.CliLemmas.{FieldsAreParts, header_meets, header_from_rules}
use Rattle.cli_header.proofs.laws.headers_are_read.Goals as goal

known : goal.After-fields_are_parts → FieldsAreParts
known c = record { said_of_part = c.fields_are_parts.ensures.said_of_part; stand_by_part = c.fields_are_parts.ensures.stand_by_part }

pub returns-clause-rules_hold : goal.returns-clause-rules_hold
returns-clause-rules_hold c = λ image header is. (header_meets (known c) image header is).all

pub returns-clause-said : goal.returns-clause-said
returns-clause-said c = λ image header is. (header_meets (known c) image header is).is

pub returns-clause-sound : goal.returns-clause-sound
returns-clause-sound c = header_from_rules (known c)
