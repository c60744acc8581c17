use Rattle.schema.proofs.StreamLemmas.{reports_found, reports_only}
use Rattle.schema.proofs.layout.Layout.read.Goals as goal

pub returns-clause-sound : goal.returns-clause-sound
returns-clause-sound c = reports_found c.args.bytes.now c.read_layout.result (λ i. (c.type_inv.bytes i).fits) c.read_layout.ensures.reports c.read_layout.ensures.layout

pub returns-clause-complete : goal.returns-clause-complete
returns-clause-complete c = λ sizes numbers laid.
    reports_only c.args.bytes.now sizes numbers c.read_layout.result c.read_layout.ensures.reports c.read_layout.ensures.layout laid
