use Rattle.std.proofs.Common.{◌≡◌, ◌+◌, ◌<◌, ◌≤◌, ◌^◌, [], ℕ, List, All, Err, length, get_or, take, drop, slice_index, sym, ap, subst, ◌∙◌, rules, arith}
use Rattle.cell_numbering.proofs.Prelude.{lt_of_not-le, length-map, take-append-drop, take_all, Full, blob_heap, distinct, used_at, AllZip, BlobUse, all_bytes, bytes_at, bytes_in, IsUseOf}
use Rattle.cell_numbering.proofs.EqualLemmas.{stable}
use Rattle.std.proofs.lemmas.Slice.Zip.{AllZip-long}
use Rattle.cell_numbering.proofs.UseLemmas.{zip_at}
use Rattle.cell_numbering.proofs.WrittenLemmas.{earlier_blob, next_blob, short_blobs}
use Rattle.cell_numbering.proofs.written_blobs.written_blobs.Goals as goal

pub written_bytes-requires : goal.written_bytes-requires
written_bytes-requires c = λ none. c.requires.uses (λ some.
    let i = c.loop-use_index.use_index in
    none (
      get_or some.0 i [],
      subst (λ (found : BlobUse). IsUseOf found (get_or some.0 i [])) (sym c.index-uses-use_index.is)
          (zip_at IsUseOf c.args.uses.now some.0 i c.index-uses-use_index.result [] some.1 c.loop-use_index-test.true),
    ))

pub with_next-requires-clause-earlier : goal.with_next-requires-clause-earlier
with_next-requires-clause-earlier c = λ low.
    let uses = c.args.uses.now in
    let i = c.loop-use_index.use_index in
    let found = c.index-uses-use_index.result in
    let here = c.index-uses-use_index.is in
    let below = c.loop-use_index-test.true in
    let written = c.loop-use_index.written in
    let before = all_bytes written.bytes.items written.firsts.items in
    let next = bytes_in c.in_ok-next.next in
    let e = slice_index c.args.earlier.now i in
    let within : e < length before = omega (arith, low, length-map written.firsts.items (bytes_at written.bytes.items), written.firsts.ok.0) in
    let claim : (blobs : List (List ℕ)) → AllZip IsUseOf uses blobs → (used_at before e ≡ next) × (0 < length next) = λ blobs all.
    let blob = get_or blobs i [] in
    let is = c.in_ok-next.ensures blob (subst (λ (u : BlobUse). IsUseOf u blob) (sym here) (zip_at IsUseOf uses blobs i found [] all below)) in
    earlier_blob uses blobs all i found below here before e next (c.loop-use_index.invariant.blobs blobs all) within is (c.requires.earlier i found below) in (
      stable (used_at before e) next (λ differ. c.requires.uses (λ some. differ (claim some.0 some.1).0)),
      lt_of_not-le (λ none. c.requires.uses (λ some. absurd (omega (arith, none, (claim some.0 some.1).1)))),
    )

pub merged-requires-clause-short : goal.merged-requires-clause-short
merged-requires-clause-short c = λ k d h. lt_of_not-le (λ long. c.requires.uses (λ some.
    let uses = c.args.uses.now in
    let i = c.loop-use_index.use_index in
    let after = all_bytes c.in_ok-written.written.bytes.items c.in_ok-written.written.firsts.items in
    let so_far : after ≡ take (i + 1) some.0 = c.in_ok-written.ensures.same
    ∙ next_blob uses some.0 some.1 i c.index-uses-use_index.result c.loop-use_index-test.true c.index-uses-use_index.is
    (all_bytes c.loop-use_index.written.bytes.items c.loop-use_index.written.firsts.items) (bytes_in c.in_ok-next.next) (c.loop-use_index.invariant.blobs some.0 some.1) c.in_ok-next.ensures in
    let short : All (λ (blob : List ℕ). length blob < 2 ^ 29) after = subst (λ (list : List (List ℕ)). All (λ (blob : List ℕ). length blob < 2 ^ 29) list) (sym so_far)
    (short_blobs uses some.0 some.1 i c.index-uses-use_index.result c.loop-use_index-test.true c.index-uses-use_index.is (i + 1)) in
    absurd (omega (arith, long, short k d h))))

pub returns-in_err-written-2-clause-full : goal.returns-in_err-written-2-clause-full
returns-in_err-written-2-clause-full c = λ blobs all e.
    let i = c.loop-use_index.use_index in
    let after = all_bytes c.in_ok-written.written.bytes.items c.in_ok-written.written.firsts.items in
    let so_far : after ≡ take (i + 1) blobs = c.in_ok-written.ensures.same
    ∙ next_blob c.args.uses.now blobs all i c.index-uses-use_index.result c.loop-use_index-test.true c.index-uses-use_index.is
    (all_bytes c.loop-use_index.written.bytes.items c.loop-use_index.written.firsts.items) (bytes_in c.in_ok-next.next) (c.loop-use_index.invariant.blobs blobs all) c.in_ok-next.ensures in
    let full : c.merged.result ≡ Err Full = search rules in
    let grows = c.heaps_grow.ensures.blobs (take (i + 1) blobs) (drop (i + 1) blobs) in
    let whole = ap (λ (l : List (List ℕ)). length (blob_heap (distinct l))) (take-append-drop (i + 1) blobs) in
    let long = ap (λ (l : List (List ℕ)). length (blob_heap (distinct l))) so_far in
    omega (arith, grows, whole, long, c.merged.ensures.full full)

pub loop-use_index-preserved : goal.loop-use_index-preserved
loop-use_index-preserved c =
    let after = all_bytes c.in_ok-written.written.bytes.items c.in_ok-written.written.firsts.items in
    record {
      written = c.in_ok-written-2.ensures.kept.written;
      blobs = λ blobs all. c.in_ok-written-2.ensures.kept.same ∙ c.in_ok-written.ensures.same
          ∙ next_blob c.args.uses.now blobs all c.loop-use_index.use_index c.index-uses-use_index.result c.loop-use_index-test.true c.index-uses-use_index.is
          (all_bytes c.loop-use_index.written.bytes.items c.loop-use_index.written.firsts.items) (bytes_in c.in_ok-next.next) (c.loop-use_index.invariant.blobs blobs all) c.in_ok-next.ensures;
    }

pub returns-clause-blobs : goal.returns-clause-blobs
returns-clause-blobs c = λ blobs all.
    let i = c.loop-use_index.use_index in
    let past : length blobs ≤ i = omega (arith, AllZip-long IsUseOf c.args.uses.now blobs all, c.loop-use_index-test.false) in
    c.loop-use_index.invariant.blobs blobs all ∙ take_all i blobs past
