use Rattle.std.proofs.Common.{sym, ◌∙◌}
use Rattle.full_names.proofs.ScopeLemmas.{after_scope, without_scope}
use Rattle.full_names.proofs.scopes.write_type_ref_name.Goals as goal

pub returns-in-Omitted : goal.returns-in-Omitted
returns-in-Omitted g c = λ model shown.
    without_scope g.W.Write.write_str_gives model c.args.row c.args.out.now c.args.out.now c.write_type_ref_within.new.out c.write_type_ref_within.result g.L.Limit.scopes
    (sym c.scopes_of_names.ensures ∙ c.in-Omitted.is) (c.write_type_ref_within.ensures model shown)

pub returns-in_ok-write_type_scope-in-Written : goal.returns-in_ok-write_type_scope-in-Written
returns-in_ok-write_type_scope-in-Written g c = λ model shown.
    after_scope g.W.Write.write_str_gives model c.args.row c.args.out.now c.write_type_scope.new.out c.write_type_ref_within-in-Written.new.out c.write_type_ref_within-in-Written.result g.L.Limit.scopes
    (sym c.scopes_of_names.ensures ∙ c.in-Written.is) (c.in_ok-write_type_scope-in-Written.ensures model shown) (c.write_type_ref_within-in-Written.ensures model shown)
