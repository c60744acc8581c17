use Rattle.heap_pools.proofs.Prelude.{◌≡◌, length, slice_index, refl, arith}
use Rattle.heap_pools.proofs.StartUseLemmas.{IsStartUse, no_start_use, start_uses_sorted}
use Rattle.heap_pools.proofs.UseLemmas.{one_more}
use Rattle.heap_pools.proofs.heap_texts.start_uses_of.Goals as goal

pub loop-use_index-preserved : goal.loop-use_index-preserved
loop-use_index-preserved c =
    let starts = c.args.starts.now in
    let n = c.loop-use_index.use_index in
    let kept = c.loop-use_index.invariant in
    let old = c.loop-use_index.start_uses.items in
    let long : length old ≡ n = omega (arith, kept.len, c.loop-use_index.start_uses.ok.0) in
    record {
      len = omega (arith, c.in_ok-push.ensures.len, kept.len);
      each = rw c.in_ok-push.ensures.items (one_more (IsStartUse starts) old (record { start = slice_index starts n; use_index = n }) no_start_use n long (refl, refl) kept.each);
    }

pub returns : goal.returns
returns c =
    let starts = c.args.starts.now in
    let kept = c.loop-use_index.invariant in
    let old = c.loop-use_index.start_uses.items in
    let end : c.loop-use_index.use_index ≡ length starts = omega arith in
    let long : length old ≡ length starts = omega (arith, kept.len, c.loop-use_index.start_uses.ok.0, end) in
    start_uses_sorted starts old c.sort_unstable.new.self.items long (λ k h. kept.each k (omega (arith, h, end))) c.sort_unstable.ensures.permutation
