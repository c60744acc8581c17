use Rattle.rows.proofs.rows.Rows.new.Goals as goal

pub invariant_of-result : goal.invariant_of-result
invariant_of-result c = c.tables_end_within.ensures c.args.bytes.now c.args.layout c.requires.0 c.requires.1
