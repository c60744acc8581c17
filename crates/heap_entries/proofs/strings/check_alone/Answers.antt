use Rattle.std.proofs.lemmas.Result.{err_from_is_err_and}
use Rattle.heap_entries.proofs.strings.check_alone.Goals as goal

pub returns-in_err-text : goal.returns-in_err-text
returns-in_err-text c = record {
  reports = λ offset.
      let p = err_from_is_err_and c.from_residual.result c.from_residual.ensures.1 in
      rw (p.1, p.2) (c.in_err-text.ensures.reports offset);
}
