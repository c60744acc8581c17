use Rattle.metadata.proofs.Prelude.{column_of, source_of}
use Rattle.metadata.proofs.KeyLemmas.{key_is, order_in_model, order_in_root}
use Rattle.metadata.proofs.laws.keys_are_in_order.Goals as goal

pub returns-clause-order : goal.returns-clause-order
returns-clause-order c = λ root model is table key keyed.
    let read = c.models_are_read.ensures in (
      order_in_model (source_of root) model (read.count root model is) (read.cells root model is) table key keyed,
      order_in_root (source_of root) model (read.count root model is) (read.cells root model is) table key keyed,
    )

pub returns-clause-numbers : goal.returns-clause-numbers
returns-clause-numbers c = λ root model is table cell row at first last.
    let read = c.models_are_read.ensures in
    key_is (source_of root) model (read.count root model is) (read.cells root model is) table (column_of table cell) cell row at.key at first last
