use Rattle.owned_model.proofs.Prelude.{◌≡◌, List, ℕ, Err, refl, ap, subst, not_there, ColumnKind, SigKind, ShowsSignature}
use Rattle.table_schema.specs.declared.column.ColumnKind.TheVariants.{Signature}
use Rattle.metadata.specs.Cell.{Cell as Says}
use Rattle.owned_model.proofs.cell.own_signature.Goals as goal

no_signature : (kind : ColumnKind) (blob : List ℕ) (cell : Says) → ((column : SigKind) → kind ≡ Signature column → ⊥) → ShowsSignature kind blob cell → ⊥
no_signature (Signature column) blob cell none shown = none column refl
no_signature _ blob cell none shown = shown

pub unreachable-requires : goal.unreachable-requires
unreachable-requires c = not_there c.requires (λ some.
    let P : ColumnKind → Type 0 = λ kind. ShowsSignature kind c.args.blob.now some.0 in
    let shown = subst P c.in-Signature.is some.1 in
    c.in-Err-Bad.ensures.bad.0 (ap Err c.in-Err-Bad.field-0-is) (shown.0, shown.1))

pub unreachable-requires-in_default : goal.unreachable-requires-in_default
unreachable-requires-in_default c = not_there c.requires (λ some. no_signature c.args.kind c.args.blob.now some.0 c.in_default.not-Signature some.1)
