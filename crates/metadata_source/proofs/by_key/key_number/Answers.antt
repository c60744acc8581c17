use Rattle.metadata_source.proofs.Prelude.{◌≡◌, ◌≤◌, Some, IfSome, IfNone, subst, arith, ColumnKind, Ref, IsOfKind, row_number}
use Rattle.metadata_source.proofs.KeyLemmas.{reports, none_takes}
use Rattle.metadata_source.proofs.by_key.key_number.Goals as goal

pub returns-clause-sound : goal.returns-clause-sound
returns-clause-sound g c = λ model shown.
    let other = c.if-token-eq0.false in
    let there : 1 ≤ c.args.token.row = omega arith in
    let P : ColumnKind → Type 0 = λ k. IfSome c.number_of.result (λ number. number ≡ row_number k c.args.token) in
    let Q : ColumnKind → Type 0 = λ k. IfSome c.number_of.result (λ _. IsOfKind k (Ref (Some c.args.token))) in
    reports model (c.holds_one.ensures.valid model shown) c.args.table c.args.cell c.requires c.args.token c.number_of.result
    (λ takes. c.key_numbers_are_one.ensures c.args.table c.args.cell c.requires c.args.token there takes)
    (subst P c.kind_of.ensures c.number_of.ensures.number) (subst Q c.kind_of.ensures c.number_of.ensures.taken)

pub returns-clause-none : goal.returns-clause-none
returns-clause-none g c = λ model shown.
    let P : ColumnKind → Type 0 = λ k. IfNone c.number_of.result (¬ IsOfKind k (Ref (Some c.args.token))) in
    none_takes model (c.holds_one.ensures.valid model shown) c.args.table c.args.cell c.requires c.args.token c.number_of.result
    (subst P c.kind_of.ensures c.number_of.ensures.none)
