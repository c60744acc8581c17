use Rattle.cli_found.proofs.Prelude.{◌≡◌, rules, offset_text, offset_line}
use Rattle.cli_found.proofs.lines.print_offset.Goals as goal

pub returns-in-Ok : goal.returns-in-Ok
unfolding offset_line
returns-in-Ok g c = let said : c.deref.result.now ≡ offset_text c.args.offset = search rules in rw (← said) c.line.ensures

pub returns-in-Err : goal.returns-in-Err
returns-in-Err g c = c.fail.ensures.lines _
