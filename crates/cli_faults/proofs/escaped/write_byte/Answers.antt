use Rattle.std.proofs.Common.{◌∙◌, ap, encode_utf8}
use Rattle.std.proofs.Output.{has_written_of_eq}
use Rattle.std.proofs.lemmas.Str.{encode_ascii}
use Rattle.cli_faults.proofs.escaped.write_byte.Goals as goal

pub returns-then-is_plain : goal.returns-then-is_plain
returns-then-is_plain g c = λ plain ok.
    rw (← c.is_plain.ensures.value, c.if-is_plain.true)
    (has_written_of_eq _ _ _ _ _ (ap encode_utf8 c.from.ensures ∙ encode_ascii c.args.byte (c.is_plain.ensures.ascii c.if-is_plain.true)) (c.write_char.ensures.writes plain ok))
