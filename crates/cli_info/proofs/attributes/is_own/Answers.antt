use Rattle.cli_info.proofs.Prelude.{◌∙◌, ap, sym, is_assembly}
use Rattle.metadata.specs.Cell.{Cell, reference_in}
use Rattle.cli_info.proofs.attributes.is_own.Goals as goal

pub returns : goal.returns
returns c = λ model is. c.is_assembly.ensures ∙ sym (ap (λ (cell : Cell). is_assembly (reference_in cell)) (c.reference.ensures.value model is))
