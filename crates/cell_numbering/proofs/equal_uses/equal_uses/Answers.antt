use Rattle.std.proofs.Common.{◌≡◌, ◌<◌, ℕ, List, [], length, slice_index, inl, inr, sym, subst, ◌∙◌, ⊎_elim, arith}
use Rattle.cell_numbering.proofs.Prelude.{AreEarlierBlobs, IsUseIn}
use Rattle.cell_numbering.proofs.EqualLemmas.{same_blobs, same_use, stable}
use Rattle.cell_numbering.proofs.UseLemmas.{zip_at}
use Rattle.cell_numbering.proofs.equal_uses.equal_uses.Goals as goal

pub returns-clause-earlier : goal.returns-clause-earlier
returns-clause-earlier g c = λ k d below.
    let uses = c.args.uses.now in
    let heap = c.in-Some.heap.now in
    let earlier = c.in_ok-equal_blobs.field-0.items in
    let j = slice_index earlier k in
    let plain = c.in_ok-indexes.ensures.plain in
    let found = subst (λ (l : List ℕ). AreEarlierBlobs heap l earlier) c.deref.ensures.value c.in_ok-equal_blobs.ensures.earlier in
    let long : length c.in_ok-indexes.indexes.items ≡ length uses = omega (arith, c.in_ok-indexes.ensures.len, c.in_ok-indexes.indexes.ok.0) in
    ⊎_elim
    (λ own. inl own)
    (λ other.
    let below_j : j < length uses = omega (arith, other.0, below) in
    let first = plain j d below_j other.1.first_in in
    let second = plain k d below other.1.second_in in
    let same = stable first.bytes second.bytes (λ differ. c.requires (λ some.
    let index_of = g.S.ReadCells.heap_index c.args.source.now in
    let blobs = some.2.0 in
    let use_j = zip_at (IsUseIn index_of some.0) uses blobs j d [] some.2.1 below_j in
    let use_k = zip_at (IsUseIn index_of some.0) uses blobs k d [] some.2.1 below in
    differ (sym (first.gives _ use_j.of)
    ∙ same_blobs index_of some.0 heap (c.in-Some.ensures some.0 some.1) c.entries_are_one.ensures.blob _ _ _ _ _ _ first second other.1 use_j use_k
    ∙ second.gives _ use_k.of))) in
    inr (other.0, same_use _ _ _ _ first second same))
    (found k (omega (arith, below, long)))
