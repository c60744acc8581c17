use Rattle.cli_declarations.proofs.Prelude.{append_assoc}
use Rattle.custom_attributes.specs.Texts.{value_text}
use Rattle.cli_declarations.proofs.PieceLemmas.{was_ok}
use Rattle.cli_declarations.proofs.TextLemmas.{cut}
use Rattle.cli_declarations.proofs.blob_sink.push_decoded.Goals as goal

pub returns : goal.returns
returns c = λ v same.
    let written = c.in_ok-end_text.ensures in
    let e = cut c.push_plain.new.declared c.begin_text.new.declared c.write_value-written.new.out c.end_text.new.declared (value_text v) c.begin_text.ensures (was_ok c.write_value-written.result written.0 (c.write_value-written.ensures v same)) written.1 in
    simp append_assoc at (rw (e, c.in_ok-push_plain.ensures) at c.push_plain-2.ensures)
