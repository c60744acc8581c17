use Rattle.c_values.proofs.Prelude.{ap, ◌∙◌, Text}
use Rattle.metadata.specs.Cell as says
use Rattle.c_values.proofs.read_cell.read_text.Goals as goal

pub returns-clause-read : goal.returns-clause-read
returns-clause-read c = (Text, c.requires, (c.in-Ok.ensures.cases.1, ap says.Text (c.from.ensures ∙ c.in_ok-from_str.ensures.ok ∙ c.in-Ok.ensures.cases.0)))
