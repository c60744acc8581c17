use Rattle.heaps.proofs.Prelude.{◌≡◌, ◌+◌, ◌<◌, false, ◌==◌, List, ℕ, max, length, refl, sym, ap, ◌∙◌, arith, err_from_is_err_and, nat_tests, short_unsigned, blob_heap, blob_index, counted, is_among, pooled}
use Rattle.heaps.proofs.BlobLemmas.{length-counted, length-pooled, blob_index-push}
use Rattle.heaps.proofs.blob_pool.BlobPool.add.Goals as goal

not_empty : (blob : List ℕ) → false ≡ (length blob == 0) → 0 < length blob
not_empty blob e = grind (arith, nat_tests)

-- the length of the heap with the blob
long : (entries : List (List ℕ)) (blob heap : List ℕ) (start used : ℕ) → heap ≡ blob_heap entries → false ≡ (length blob == 0) → is_among entries blob ≡ false → start ≡ max (length heap) 1 → used ≡ length (short_unsigned (length blob))
    → (length (blob_heap (pooled entries blob)) ≡ start + (used + length blob)) × (length (counted blob) ≡ used + length blob)
long entries blob heap start used is some new at counts =
    let whole = length-pooled entries blob (not_empty blob some) new in
    let entry = length-counted blob in
    let same = ap length is in
    (omega arith, omega arith)

pub returns-then-start-unsigned_len-clause-full : goal.returns-then-start-unsigned_len-clause-full
returns-then-start-unsigned_len-clause-full c =
    let lengths = long c.args.self.now c.args.blob.now c.bytes-len.result.now c.max-start.result c.unsigned_len.result c.bytes-len.ensures.heap c.if-is_empty.ensures c.in_default.ensures.none c.max-start.ensures c.unsigned_len.ensures in
    let past = c.if-start-unsigned_len.true in
    (λ _. omega arith, λ _. refl)

pub insert-requires-clause-fits : goal.insert-requires-clause-fits
insert-requires-clause-fits c =
    let lengths = long c.args.self.now c.args.blob.now c.bytes-len.result.now c.max-start.result c.unsigned_len.result c.bytes-len.ensures.heap c.if-is_empty.ensures c.in_default.ensures.none c.max-start.ensures c.unsigned_len.ensures in
    let room = c.if-start-unsigned_len.false in
    let fits = c.bytes-len.ensures.fits in
    let start = c.max-start.ensures in
    omega arith

pub returns-in_err-insert-clause-full : goal.returns-in_err-insert-clause-full
returns-in_err-insert-clause-full c =
    let p = err_from_is_err_and c.from_residual.result c.from_residual.ensures.1 in
    let lengths = long c.args.self.now c.args.blob.now c.bytes-len.result.now c.max-start.result c.unsigned_len.result c.bytes-len.ensures.heap c.if-is_empty.ensures c.in_default.ensures.none c.max-start.ensures c.unsigned_len.ensures in
    let room = c.if-start-unsigned_len.false in
    let fits = c.bytes-len.ensures.fits in
    let start = c.max-start.ensures in
    rw (p.1, p.2) (λ full. cc, λ past. absurd (omega arith))

pub returns-clause-index : goal.returns-clause-index
returns-clause-index c =
    let some = not_empty c.args.blob.now c.if-is_empty.ensures in
    c.max-start.ensures ∙ ap (λ (l : List ℕ). max (length l) 1) c.bytes-len.ensures.heap ∙ sym (blob_index-push c.args.self.now c.args.blob.now some c.in_default.ensures.none)
    ∙ ap (λ (l : List (List ℕ)). blob_index l c.args.blob.now) (sym c.in_ok-insert.ensures.ok)

pub returns-clause-full : goal.returns-clause-full
returns-clause-full c =
    let lengths = long c.args.self.now c.args.blob.now c.bytes-len.result.now c.max-start.result c.unsigned_len.result c.bytes-len.ensures.heap c.if-is_empty.ensures c.in_default.ensures.none c.max-start.ensures c.unsigned_len.ensures in
    let room = c.if-start-unsigned_len.false in
    let fits = c.bytes-len.ensures.fits in
    let start = c.max-start.ensures in
    (λ full. cc, λ past. absurd (omega arith))
