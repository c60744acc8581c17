use Rattle.cli_outline.proofs.Prelude.{◌-◌, map, refl, rules, take_all, All-permutation, IsPermutation-map, answers_always, ranks_by, IsKeyed, key_limit, keyed_cmp, row_of_keyed, Keyed}
use Rattle.std.specs.Ordering.{is_lt}
use Rattle.cli_outline.proofs.OrderLemmas.{keyed_cmp_total, rows_within}
use Rattle.cli_outline.proofs.orders.push_in_order.Goals as goal

pub returns : goal.returns
returns c =
    let keyed = c.sort_unstable_by.new.self.items in
    let first = c.args.rows.start in
    let past = c.args.rows.«end» in
    let found = map row_of_keyed keyed in
    let all = rw (take_all _ c.deref-item-items.result.now c.loop-item-test.false, c.deref-item-items.ensures.value) at c.loop-item.invariant in
    let same = rw c.in_ok-keyed.ensures.rows at (IsPermutation-map row_of_keyed _ _ c.sort_unstable_by.ensures.permutation) in
    let sorted = c.sort_unstable_by.ensures.sorted (λ (x y : Keyed). is_lt (keyed_cmp x y)) (ranks_by keyed_cmp_total (λ (x : Keyed). x)) (answers_always _ _ _ (λ f a r g h. search rules)) in (
      found,
      all,
      rows_within first past _ found same c.requires.first c.requires.last,
      λ model is. record {
        keyed = keyed;
        keys = All-permutation (IsKeyed c.args.source.now.options model c.args.table (key_limit (past - first))) _ _ c.sort_unstable_by.ensures.permutation (c.in_ok-keyed.ensures.keys model is);
        sorted = sorted;
        same = same;
        rows = refl;
      },
    )
