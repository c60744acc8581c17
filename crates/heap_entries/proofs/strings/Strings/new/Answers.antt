use Rattle.heap_entries.proofs.Prelude.{sym, subst, IsWhole}
use Rattle.heap_entries.proofs.WholeLemmas.{whole_found, last_found}
use Rattle.heap_entries.proofs.strings.Strings.new.Goals as goal

pub invariant_of-result : goal.invariant_of-result
invariant_of-result c = record {
  whole = subst (IsWhole c.args.heap.now) (sym c.ok.ensures.value) (whole_found c.args.heap.now c.from_utf8.result c.from_utf8.ensures);
  last = last_found c.args.heap.now c.memrchr.result c.memrchr.ensures;
}
