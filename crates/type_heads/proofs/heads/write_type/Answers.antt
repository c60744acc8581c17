use Rattle.type_heads.proofs.Prelude.{◌≡◌, ◌∙◌, [], Option, Some, None, refl, subst, sym, Token, cell_in, on_wrote, writes_nothing, reference_in, table_of, IsTypeName, IsTypeOf}
use Rattle.full_names.specs.Texts.{IsFullNameBy}
use Rattle.type_heads.proofs.heads.write_type.Goals as goal

pub returns-in-Some : goal.returns-in-Some
returns-in-Some g c = λ model is.
    let token = c.in-Some.token in
    let same : Some token ≡ reference_in (cell_in model (table_of c.args.link) c.args.row 1) = sym c.in-Some.is ∙ c.reference.ensures model is in
    on_wrote g.W.Write.write_str_gives (IsFullNameBy g.L.Limit.scopes model token) (IsTypeOf g.L.Limit.scopes model c.args.link c.args.row) _ _ c.write_full_name_within.result (c.write_full_name_within.ensures.name model is)
    (λ text named. subst (λ (o : Option Token). IsTypeName g.L.Limit.scopes model o text) same named)

pub returns-in-None : goal.returns-in-None
returns-in-None g c = λ model is.
    let same : None ≡ reference_in (cell_in model (table_of c.args.link) c.args.row 1) = sym c.in-None.is ∙ c.reference.ensures model is in
    ([], subst (λ (o : Option Token). IsTypeName g.L.Limit.scopes model o []) same refl, writes_nothing g.W.Write.write_str_gives c.args.out.now)
