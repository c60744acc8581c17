use Rattle.type_heads.proofs.Prelude.{◌<◌, subst, sym, cell_count}
use Rattle.table_schema.specs.declared.table.TableId.{TableId}
use Rattle.type_heads.proofs.HeadLemmas.{second_cell}
use Rattle.type_heads.proofs.heads.reference.Goals as goal

pub reference_or_null-requires-clause-cell : goal.reference_or_null-requires-clause-cell
reference_or_null-requires-clause-cell c = subst (λ (t : TableId). 1 < cell_count t) (sym c.table.ensures) (second_cell c.args.link)
