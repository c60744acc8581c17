use Rattle.type_heads.proofs.Prelude.{◌≤◌, [], map, subst, sym, All, on_wrote, KeyedRow, Link, row_of, table_of, AreListed, IsGenericParam, IsInHead, IsTypeOf}
use Rattle.opening.specs.Views.{row_count}
use Rattle.type_heads.proofs.HeadLemmas.{other_items}
use Rattle.type_heads.proofs.heads.write_items.Goals as goal

pub write_params-requires : goal.write_params-requires
write_params-requires g c =
    subst (λ (of : Link). All (λ (found : KeyedRow). (1 ≤ found.row) × (found.row ≤ row_count c.args.source.now.view.now (table_of of))) c.args.rows.now) c.in-GenericParams.is c.requires

pub returns-in-GenericParams : goal.returns-in-GenericParams
returns-in-GenericParams g c = λ model is.
    on_wrote g.W.Write.write_str_gives (AreListed (IsGenericParam g.L.Limit.scopes model) [] (map row_of c.args.rows.now)) (AreListed (IsInHead g.L.Limit.scopes model c.args.link) [] (map row_of c.args.rows.now)) _ _
    c.write_params.result (c.write_params.ensures model is)
    (λ text are. subst (λ (of : Link). AreListed (IsInHead g.L.Limit.scopes model of) [] (map row_of c.args.rows.now) text) (sym c.in-GenericParams.is) are)

pub returns-in_default : goal.returns-in_default
returns-in_default g c = λ model is.
    on_wrote g.W.Write.write_str_gives (AreListed (IsTypeOf g.L.Limit.scopes model c.args.link) [] (map row_of c.args.rows.now)) (AreListed (IsInHead g.L.Limit.scopes model c.args.link) [] (map row_of c.args.rows.now)) _ _
    c.write_types.result (c.write_types.ensures model is) (λ text are. other_items g.L.Limit.scopes model c.args.link c.in_default.not-GenericParams [] (map row_of c.args.rows.now) text are)
