use Rattle.std.proofs.lemmas.Bool.{eq-eqb, ne_eqb}
use Rattle.sig_text.proofs.Chains.{and_then, silent}
use Rattle.sig_text.proofs.shape.unwritten.Goals as goal

pub returns-then-written-rank : goal.returns-then-written-rank
returns-then-written-rank g c = rw (eq-eqb c.args.written c.args.rank c.if-written-rank.true) silent

pub returns : goal.returns
returns g c = rw (ne_eqb c.args.written c.args.rank c.if-written-rank.false) (and_then c.put_text.ensures c.put_number.ensures)
