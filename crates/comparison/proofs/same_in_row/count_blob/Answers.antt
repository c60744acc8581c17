use Rattle.comparison.proofs.Prelude.{on_ok_weaker}
use Rattle.comparison.proofs.same_in_row.count_blob.Goals as goal

pub count_compared-requires : goal.count_compared-requires
count_compared-requires c = rw (c.source.ensures.source, c.source-2.ensures.source) c.requires.1

pub returns : goal.returns
returns c = on_ok_weaker c.count_compared.result (λ named. (c.requires.0, rw (c.source.ensures.source, c.source-2.ensures.source) at named)) c.count_compared.ensures
