use Rattle.cli_outline.proofs.Prelude.{◌≡◌, ◌∷◌, [], ◌+◌, ◌-◌, arith, map-append, All-push, IsKeyed, key_limit, row_of_keyed, Keyed}
use Rattle.cli_outline.proofs.OrderLemmas.{range_more}
use Rattle.cli_outline.proofs.orders.keyed_rows.Goals as goal

pub loop-row-preserved : goal.loop-row-preserved
loop-row-preserved c =
    let first = c.args.rows.start in
    let row = c.loop-row.row in
    let n = row - first in
    let from = c.loop-row.auto.row in
    let item : Keyed = record { key = c.in_ok-key.key; row = row } in
    let more : row + 1 - first ≡ n + 1 = omega (arith, from) in
    let at : first + n ≡ row = omega (arith, from) in
    record {
      below = omega (arith, from, c.loop-row-test.true);
      rows = rw (c.in_ok-push.ensures.items, map-append row_of_keyed c.loop-row.keyed.items (item ∷ []), c.loop-row.invariant.rows, more, range_more first n row at);
      keys = λ model is.
          let key = rw c.saturating_sub-count.ensures at (c.in_ok-key.ensures model is) in
          rw c.in_ok-push.ensures.items (All-push (IsKeyed c.args.source.now.options model c.args.table (key_limit (c.args.rows.«end» - first))) c.loop-row.keyed.items item (c.loop-row.invariant.keys model is) key);
    }
