use Rattle.declarations.proofs.Prelude.{◌∙◌, ◌≤◌, ap, arith, ltb-false, ltb-true, subst, sym, filter, All-same, Param, KeyedRow, has_key, IsParamAt}
use Rattle.declarations.proofs.ParamNames.{found_row, no_row}
use Rattle.declarations.proofs.params.Params.row.Goals as goal

pub returns-in-Some : goal.returns-in-Some
returns-in-Some g c =
    let within : KeyedRow → Type 0 = λ param. (1 ≤ param.row) × (param.row ≤ g.S.ReadMetadata.row_count c.args.self.now.source.now Param) in
    let is_found = c.with_key.ensures ∙ ap (filter (has_key c.args.position)) c.deref.ensures.value in
    let some = ltb-true 0 _ (sym c.in-Some.ensures.lookup.0) in
    let there = subst within (sym c.in-Some.ensures.lookup.1) (All-same within c.with_key.result.now _ is_found (c.args.self.now.within c.args.position) 0 c.in-Some.param.now some) in
    record {
      first = there.0;
      last = there.1;
      row = λ model shown first past are.
          subst (λ (param : KeyedRow). IsParamAt model first past c.args.position param.row) (sym c.in-Some.ensures.lookup.1)
          (found_row model (c.holds_one.ensures.valid model shown) first past c.args.position _ c.with_key.result.now are is_found c.in-Some.param.now some);
    }

pub returns-in-None-clause-row : goal.returns-in-None-clause-row
returns-in-None-clause-row g c = λ model shown first past are.
    let is_found = c.with_key.ensures ∙ ap (filter (has_key c.args.position)) c.deref.ensures.value in
    let none = ltb-false 0 _ (sym c.in-None.ensures.lookup.0) in
    no_row model (c.holds_one.ensures.valid model shown) first past c.args.position _ c.with_key.result.now are is_found (omega (arith, none))
