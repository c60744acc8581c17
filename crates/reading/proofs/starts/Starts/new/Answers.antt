use Rattle.std.proofs.Common.{sym, ◌∙◌, ap, arith, ◌+◌}
use Rattle.reading.proofs.StartLemmas.{start_past}
use Rattle.reading.proofs.starts.Starts.new.Goals as goal

pub invariant_of-result : goal.invariant_of-result
invariant_of-result c =
    let owners = c.count.ensures.value in
    let members = c.count-2.ensures.value in
    record {
      column = c.requires;
      within = omega arith;
      behind = ap (λ n. n + 1) members ∙ sym (start_past c.args.source.now.source c.args.owner (c.count.result + 1) c.args.column c.args.member (omega arith));
    }
