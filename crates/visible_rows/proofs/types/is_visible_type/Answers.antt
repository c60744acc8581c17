use Rattle.visible_rows.proofs.Prelude.{◌∙◌}
use Rattle.visible_rows.proofs.TypeLemmas.{by_outer}
use Rattle.visible_rows.proofs.types.is_visible_type.Goals as goal

pub returns : goal.returns
returns c = λ model is outer earlier.
    c.is_visible_by.ensures ∙ by_outer model (c.models_of_roots_are_valid.ensures c.args.view.now model is) c.args.row c.access-access.result c.args.outer c.args.earlier.now
    c.is_known.result c.requires.first (c.access-access.ensures model is) outer earlier c.is_known.ensures
