use Rattle.owned_model.proofs.Prelude.{ap, ◌∙◌, zero_padded, Metadata}
use Rattle.owned_model.proofs.CellLemmas.{padded_is}
use Rattle.owned_model.proofs.metadata_held.ModelReadMetadata.user.Goals as goal

pub returns : goal.returns
returns c = λ model same.
    ap zero_padded c.user.ensures ∙ padded_is c.args.self.now.user c.tables-tables.ensures.valid.user.zero_padded
    ∙ ap (λ (it : Metadata). it.user) same
