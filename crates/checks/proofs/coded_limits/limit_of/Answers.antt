use Rattle.checks.proofs.Prelude.{◌≡◌, Some, None, ap, sym, subst, ◌∙◌, ◌+◌, slice_get-get_or, slice_get}
use Rattle.checks.proofs.coded_limits.limit_of.Goals as goal

pub returns-in-Some-Some : goal.returns-in-Some-Some
returns-in-Some-Some c = λ some.
    let found = c.in-Some-Some in
    let within = found.ensures.lookup.3 in
    record {
      table = found.table;
      listed = subst (λ tables. slice_get tables c.args.tag ≡ Some (Some found.table)) c.tables.ensures
          (slice_get-get_or c.tables.result.now c.args.tag None within.0 ∙ ap Some (sym (within.1 None) ∙ found.field-0-is));
      rows = ap (λ n. n + 1) c.count.ensures.value;
    }
