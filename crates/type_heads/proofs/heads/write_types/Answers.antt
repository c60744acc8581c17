use Rattle.type_heads.proofs.Prelude.{refl, rules, IsTypeOf}
use Rattle.type_heads.proofs.HeadLemmas.{none_left, one_more, passed_over, type_text}
use Rattle.type_heads.proofs.heads.write_types.Goals as goal

pub loop-found-preserved : goal.loop-found-preserved
loop-found-preserved g c = record {
  utf8 = search rules;
  left = λ model later is left.
      c.loop-found.invariant.left model later is
      (one_more g.W.Write.write_str_gives (IsTypeOf g.L.Limit.scopes model c.args.link) c.args.rows.now c.loop-found.found-index c.loop-found.before.now c.loop-found.out _ _ later (record { key = 0; row = 0 })
      c.loop-found-test.true c.in_ok-write_text.ensures (c.in_ok-write_type.ensures model is) left);
}

-- the rows that are left are passed over
pub returns-then-is_reached : goal.returns-then-is_reached
returns-then-is_reached g c = λ model is.
    c.loop-found.invariant.left model c.loop-found.out is
    (passed_over g.W.Write.write_str_gives (IsTypeOf g.L.Limit.scopes model c.args.link) c.args.rows.now c.loop-found.found-index c.loop-found.before.now c.loop-found.out
    (type_text g.L.Limit.scopes model (c.models_of_roots_are_valid.ensures _ model is) c.args.link) (c.if-is_reached.ensures refl))

pub returns : goal.returns
returns g c = λ model is.
    c.loop-found.invariant.left model c.loop-found.out is
    (none_left g.W.Write.write_str_gives (IsTypeOf g.L.Limit.scopes model c.args.link) c.args.rows.now c.loop-found.found-index c.loop-found.before.now c.loop-found.out c.loop-found-test.false)
