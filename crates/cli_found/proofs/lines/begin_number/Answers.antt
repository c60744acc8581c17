use Rattle.cli_found.proofs.Prelude.{◌≡◌, rules, lead_text, value_line}
use Rattle.cli_found.proofs.lines.begin_number.Goals as goal

pub returns-in-Ok : goal.returns-in-Ok
unfolding value_line
returns-in-Ok g c =
    let said : c.deref.result.now ≡ lead_text c.args.lead = search rules in
    rw (← said) (c.parts_follow.ensures.begun _ _ _ _ _ c.start.ensures c.parts.ensures)

pub returns-in-Err : goal.returns-in-Err
returns-in-Err g c = c.parts_follow.ensures.begun _ _ _ _ _ c.start.ensures (c.fail.ensures.parts _)
