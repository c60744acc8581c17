use Rattle.checks.proofs.Prelude.{inl, inr, arith, cases_lt, each_holds, rows_in, rules_of_signatures_in, rules_of_signatures_of}
use Rattle.checks.proofs.signature_checks.check_signatures_of.Goals as goal

pub returns-clause-takes : goal.returns-clause-takes
unfolding rules_of_signatures_of
returns-clause-takes c =
    let here = c.args.source.now in
    let first = c.in-Some.first in
    let rows = rows_in here.source c.args.table in
    elim (cases_lt rows first) [
      | inl past ↦ c.in-Some.ensures.takes past
      | inr within ↦
          absurd (c.in-Some.ensures.broken within (each_holds (rules_of_signatures_in here c.args.table) 1 rows c.in_ok-check_signature_rows.ensures first c.in-Some.ensures.found.0 (omega (arith, within))))
    ]
