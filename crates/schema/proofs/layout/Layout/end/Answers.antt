use Rattle.std.proofs.Common.{◌∙◌}
use Rattle.schema.proofs.TableLayoutLemmas.{last_end}
use Rattle.schema.proofs.layout.Layout.end.Goals as goal

pub returns : goal.returns
returns c = c.row_start.ensures ∙ last_end c.args.self.now c.count.result c.count.ensures.value
