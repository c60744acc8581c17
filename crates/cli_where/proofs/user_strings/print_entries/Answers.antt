use Rattle.std.proofs.Common.{[], ◌∷◌, arith, refl}
use Rattle.cli_where.proofs.user_strings.print_entries.Goals as goal

pub loop-string-preserved : goal.loop-string-preserved
loop-string-preserved g c =
    let entry = c.in-Some in
    let found = c.in-Some.ensures in
    record {
      some = omega (arith, c.loop-string.invariant.some, found.later);
      left = λ later remainder are printed.
          c.loop-string.invariant.left later (record { offset = c.loop-string.index; string = entry.string; next = entry.next } ∷ remainder) (found.token, refl, found.sound, are)
          (c.lines_follow.ensures.more _ _ _ _ _ c.print_entry.ensures printed);
    }

pub returns : goal.returns
returns g c = c.loop-string.invariant.left c.loop-string.out [] c.in_default.ensures.none (c.lines_follow.ensures.nothing c.loop-string.out)
