use Rattle.visible_rows.proofs.Prelude.{subst, Token, IsPartOf}
use Rattle.visible_rows.proofs.declaring.declaring_type.Goals as goal

pub returns : goal.returns
returns c = λ model is.
    subst (λ (t : Token). IsPartOf model t.table t.row c.part_of.result) (c.described_last.ensures.value model is) (c.part_of.ensures model is)
