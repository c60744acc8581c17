use Rattle.owned_model.proofs.Prelude.{subst, ∥∥₁_map, Shows, CellRef}
use Rattle.owned_model.proofs.cell.own_cell.Goals as goal

pub own_signature-requires : goal.own_signature-requires
own_signature-requires c =
    ∥∥₁_map c.requires (λ some.
    let P : CellRef → Type 0 = λ seen. Shows c.args.kind seen some.0 in
    (some.0, subst P c.in-Sig.is some.1))
