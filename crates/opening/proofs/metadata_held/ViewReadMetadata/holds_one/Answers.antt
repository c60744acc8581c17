use Rattle.opening.specs.Views.{row_count}
use Rattle.opening.proofs.metadata_held.ViewReadMetadata.holds_one.Goals as goal

pub returns-clause-shown : goal.returns-clause-shown
returns-clause-shown c = c.root-root.ensures.model

pub returns-clause-valid : goal.returns-clause-valid
returns-clause-valid c = λ model is. c.models_of_roots_are_valid.ensures c.args.self.now model is

pub returns-clause-rows : goal.returns-clause-rows
unfolding row_count
returns-clause-rows c = λ model is table. c.models_are_read.ensures.count c.args.self.now model is table

pub returns-clause-keys : goal.returns-clause-keys
unfolding row_count
returns-clause-keys c = λ model is. c.keys_are_in_order.ensures.numbers c.args.self.now model is
