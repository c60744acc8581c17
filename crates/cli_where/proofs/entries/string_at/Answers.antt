use Rattle.std.proofs.Common.{◌≤◌, ◌-◌, ◌+◌, arith, drop, take}
use Rattle.cli_where.proofs.EntryLemmas.{before_run, has_is, run_string, run_string_long}
use Rattle.cli_where.proofs.entries.string_at.Goals as goal
use Rattle.cli_where.proofs.entries.string_at.Goals.{then-index-eq0-via-then-index-eq0, then-index-eq0-via-else-index-eq0+then-index-first, then-index-eq0-via-else-index-eq0+else-index-first+then-target-start}

pub returns-in_err-first-clause-none : goal.returns-in_err-first-clause-none
returns-in_err-first-clause-none c =
    rw c.from_residual.ensures ((rw c.in_err-first.was at c.requires.run) c.args.index)

pub returns-then-index-eq0-clause-none : goal.returns-then-index-eq0-clause-none
returns-then-index-eq0-clause-none c = λ start size is has.
    let range = (has_is start size c.args.target.now.offset).0 has in
    let found = rw c.in_ok-first.was at c.requires.run in
    let some = is.some in
    let from = is.from in
    let long = is.long in
    let at = found.1 in
    elim c.then-index-eq0.branch [
      | then-index-eq0-via-then-index-eq0 w ↦ omega (arith, some, w.if-index-eq0.true)
      | then-index-eq0-via-else-index-eq0+then-index-first w ↦ before_run c.args.target.now.texts.bytes.now found.0 c.in_ok-first.first c.in_ok-first.nul found.2 c.args.index is.text is.stands
          (omega (arith, w.if-index-first.true)) (omega (arith, range.1, at, from, long))
      | then-index-eq0-via-else-index-eq0+else-index-first+then-target-start w ↦ omega (arith, range.0, from, w.if-target-start.true, c.from.ensures)
    ]

pub returns-clause-sound : goal.returns-clause-sound
returns-clause-sound c =
    let found = rw c.in_ok-first.was at c.requires.run in
    let heap = c.args.target.now.texts.bytes.now in
    let run = c.in_ok-first in
    let index = c.args.index in
    let at = found.1 in
    let end_after = found.2.upto in
    let upto : index ≤ found.0 = omega (arith, at, c.if-target-start.false, c.from.ensures) in (
      record {
        some = omega (arith, c.if-index-eq0.false);
        text = take (run.nul - index) (drop index heap);
        stands = run_string heap found.0 run.first run.nul found.2 index c.if-index-first.false upto;
        from = omega (arith, c.from.ensures);
        long = omega (arith, run_string_long heap found.0 run.first run.nul found.2 index c.if-index-first.false upto);
      },
      (has_is (c.args.target.now.texts.start + c.from.result) (run.nul - index + 1) c.args.target.now.offset).1 (c.if-target-start.false, omega (arith, at, end_after, upto, c.from.ensures)),
    )
