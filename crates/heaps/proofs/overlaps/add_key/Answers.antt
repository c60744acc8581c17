use Rattle.heaps.proofs.Prelude.{◌<◌, All, length, slice_index, sym, subst, IsKey, IsKeyAt}
use Rattle.heaps.proofs.EntryLemmas.{key_added}
use Rattle.heaps.proofs.overlaps.add_key.Goals as goal

pub returns-in_ok-push-in-Some : goal.returns-in_ok-push-in-Some
returns-in_ok-push-in-Some c =
    let heap = c.args.heap.now in
    let indexes = c.args.indexes.now in
    let width = c.args.windows.now.width in
    let key = c.in-Some.key in
    let found = c.in-Some.ensures in
    subst (All (IsKey heap indexes width)) (sym c.in_ok-push-in-Some.ensures.items)
    (key_added heap indexes width c.args.keys.now.items key c.requires.keys
    (subst (λ u. u < length indexes) (sym found.use_index) c.requires.use_index_in)
    (subst (λ u. IsKeyAt heap width (slice_index indexes u) key) (sym found.use_index) found.at))
