use Rattle.schema.proofs.Prelude.{◌∙◌, sym, eqb-true, eq-eqb, has_bit}
use Rattle.schema.proofs.BitLemmas.{names_tables}
use Rattle.schema.proofs.read.names_tables.Goals as goal

pub returns : goal.returns
returns c = (
  λ is. record { counted = has_bit c.args.valid; bits = sym (eqb-true c.table_bits.result c.args.valid is) ∙ c.table_bits.ensures },
  λ named. eq-eqb c.table_bits.result c.args.valid (c.table_bits.ensures ∙ names_tables c.args.valid named),
)
