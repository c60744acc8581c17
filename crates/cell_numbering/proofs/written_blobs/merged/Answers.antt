use Rattle.std.proofs.Common.{◌≡◌, ◌^◌, ◌<◌, ℕ, List, All, length, slice_index, sym, ap, subst, ◌∙◌, arith}
use Rattle.cell_numbering.proofs.Prelude.{blob_heap, distinct, bytes_of, AreFirsts, AreWrittenAs, all_bytes, bytes_at}
use Rattle.heap_pools.proofs.UseLemmas.{written_back}
use Rattle.cell_numbering.specs.declared.blob_bytes.BlobBytes.{BlobBytes}
use Rattle.cell_numbering.proofs.WrittenLemmas.{bytes_same, written_same}
use Rattle.cell_numbering.proofs.written_blobs.merged.Goals as goal

pub sort_from-requires-clause-short : goal.sort_from-requires-clause-short
sort_from-requires-clause-short c =
    let slices = ap bytes_of c.deref-3.ensures.value ∙ c.in_ok-slices.ensures
    ∙ ap (λ (b : List BlobBytes). all_bytes b c.deref-2.result.now) c.deref.ensures.value ∙ ap (all_bytes c.args.written.bytes.items) c.deref-2.ensures.value in
    subst (λ (list : List (List ℕ)). All (λ (blob : List ℕ). length blob < 2 ^ 29) list) (sym slices) c.requires.short

pub returns-in_err-heap_len-clause-full : goal.returns-in_err-heap_len-clause-full
returns-in_err-heap_len-clause-full c = λ full.
    let sorted = c.in_ok-sorted.ensures ∙ ap bytes_of c.deref-3.ensures.value ∙ c.in_ok-slices.ensures
    ∙ ap (λ (b : List BlobBytes). all_bytes b c.deref-2.result.now) c.deref.ensures.value ∙ ap (all_bytes c.args.written.bytes.items) c.deref-2.ensures.value in
    subst (λ (l : List (List ℕ)). 2 ^ 30 < length (blob_heap (distinct l))) sorted c.in_err-heap_len.ensures.full.1

pub returns-clause-kept : goal.returns-clause-kept
returns-clause-kept c =
    let bytes = c.args.written.bytes.items in
    let firsts = c.args.written.firsts.items in
    let news = c.into_firsts-firsts.result.items in
    let used = all_bytes bytes firsts in
    let sorted : c.in_ok-sorted.sorted ≡ used =
    c.in_ok-sorted.ensures ∙ ap bytes_of c.deref-3.ensures.value ∙ c.in_ok-slices.ensures
    ∙ ap (λ (b : List BlobBytes). all_bytes b c.deref-2.result.now) c.deref.ensures.value ∙ ap (all_bytes bytes) c.deref-2.ensures.value in
    let found : AreFirsts used news = subst (λ (list : List (List ℕ)). AreFirsts list news) sorted c.into_firsts-firsts.ensures in
    let len : length c.drop_repeated.new.bytes ≡ length bytes = c.drop_repeated.ensures.len ∙ ap length c.deref_mut.ensures.value in
    let kept : (k : ℕ) → slice_index news k ≡ k → bytes_at c.drop_repeated.new.bytes k ≡ bytes_at bytes k =
    λ k own. c.drop_repeated.ensures.kept k (ap (λ (l : List ℕ). slice_index l k) c.deref-4.ensures.value ∙ own) ∙ ap (λ (b : List BlobBytes). bytes_at b k) c.deref_mut.ensures.value in
    let back = written_back c.args.written.bytes.len c.drop_repeated.new.bytes bytes (omega (arith, len, c.args.written.bytes.ok.0)) in
    subst (λ (b : List BlobBytes). AreWrittenAs b news used) (sym back) (record {
      written = written_same bytes firsts c.requires.written c.drop_repeated.new.bytes news found len kept;
      same = bytes_same bytes firsts c.requires.written c.drop_repeated.new.bytes news found len kept;
    })
