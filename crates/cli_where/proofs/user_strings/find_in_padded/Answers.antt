use Rattle.cli_where.proofs.Prelude.{[], ◌∷◌, arith, refl, adds_none, and_then}
use Rattle.cli_where.proofs.user_strings.find_in_padded.Goals as goal

pub loop-string-preserved : goal.loop-string-preserved
loop-string-preserved c =
    let entry = c.in-Some in
    let found = c.in-Some.ensures in
    record {
      some = omega (arith, c.loop-string.invariant.some, found.later);
      left = λ later remainder are adds.
          c.loop-string.invariant.left later (record { offset = c.loop-string.index; string = entry._string; next = entry.next } ∷ remainder) (found.token, refl, found.sound, are)
          (and_then (rw (c.saturating_sub.ensures, c.min-end.ensures) at c.look_at.ensures) adds);
    }

pub returns : goal.returns
returns c = c.loop-string.invariant.left c.loop-string.found [] c.in_default.ensures.none (adds_none c.loop-string.found)
