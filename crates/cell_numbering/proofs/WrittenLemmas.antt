-- The bytes of the blobs that are written, use by use, and without those of equal ones.
use Rattle.std.proofs.Common.{◌≡◌, ℕ, ◌+◌, ◌<◌, ◌≤◌, ◌^◌, ◌⊎◌, List, [], ◌∷◌, ◌++◌, All, length, get_or, map, take, slice_index, refl, sym, ap, subst, ◌∙◌, ⊎_elim, arith, length-take-le, get_or-take}
use Rattle.cell_numbering.proofs.Prelude.{AllZip, cases_lt, take_more, ext_get_or, get_or-map, get_or_append_left, get_or_push, length-map, length_push, map_push, All-from_get_or, All-take, HasText, IsFirstUse, used_at, AreFirsts, AreWritten, all_bytes, bytes_at, bytes_in, BlobUse, IsUseOf}
use Rattle.heap_pools.proofs.FirstLemmas.{last_cases}
use Rattle.cell_numbering.specs.declared.blob_bytes.BlobBytes.{BlobBytes}
use Rattle.cell_numbering.specs.declared.blob_bytes.BlobBytes.TheVariants.{Found}
use Rattle.cell_numbering.specs.EqualUses.{IsSameUse}
use Rattle.cell_numbering.proofs.BlobLemmas.{same_map}
use Rattle.std.proofs.lemmas.Slice.Zip.{AllZip-long}
use Rattle.cell_numbering.proofs.UseLemmas.{zip_at}

abbrev pub no_bytes : BlobBytes
no_bytes = Found (record { ref_ptr = (0, 0); now = [] })

pub bytes_read : (bytes : List BlobBytes) (firsts : List ℕ) (k : ℕ) → k < length firsts → used_at (all_bytes bytes firsts) k ≡ bytes_at bytes (slice_index firsts k)
bytes_read bytes firsts k h = get_or-map (bytes_at bytes) firsts k 0 [] h

module _ (uses : List BlobUse) (blobs : List (List ℕ)) (all : AllZip IsUseOf uses blobs) (i : ℕ) (found : BlobUse) (below : i < length uses) (here : found ≡ get_or uses i found) where
  -- the blob of one more use
  pub next_blob : (before : List (List ℕ)) (blob : List ℕ) → before ≡ take i blobs → ((b : List ℕ) → IsUseOf found b → blob ≡ b) → before ++ blob ∷ [] ≡ take (i + 1) blobs
  next_blob before blob are is =
      ap (λ list. list ++ blob ∷ []) are
      ∙ ap (λ b. take i blobs ++ b ∷ []) (is (get_or blobs i []) (subst (λ (u : BlobUse). IsUseOf u (get_or blobs i [])) (sym here) (zip_at IsUseOf uses blobs i found [] all below)))
      ∙ sym (take_more blobs i [] (omega (arith, below, AllZip-long IsUseOf uses blobs all)))

  -- the blob of an earlier use that is one of the same blob
  pub earlier_blob : (before : List (List ℕ)) (earlier : ℕ) (next : List ℕ) → before ≡ take i blobs → earlier < length before → next ≡ get_or blobs i []
      → (earlier ≡ i) ⊎ ((earlier < i) × IsSameUse (get_or uses earlier found) (get_or uses i found)) → (used_at before earlier ≡ next) × (0 < length next)
  earlier_blob before earlier next are low is same =
      let count = AllZip-long IsUseOf uses blobs all in
      let within : i ≤ length blobs = omega (arith, below, count) in
      let lt : earlier < i = omega (arith, low, ap length are, length-take-le i blobs within) in
      ⊎_elim
      (λ (own : earlier ≡ i). absurd (omega (arith, own, lt)))
      (λ other.
      let one = other.1 (get_or blobs earlier []) (get_or blobs i []) (zip_at IsUseOf uses blobs earlier found [] all (omega (arith, lt, below))) (zip_at IsUseOf uses blobs i found [] all below) in
      (ap (λ (l : List (List ℕ)). get_or l earlier []) are ∙ get_or-take i blobs earlier [] lt ∙ one.0 ∙ sym is, subst (λ (l : List ℕ). 0 < length l) (sym is) one.1))
      same

  pub short_blobs : (count : ℕ) → All (λ blob. length blob < 2 ^ 29) (take count blobs)
  short_blobs count = All-take (λ blob. length blob < 2 ^ 29) count blobs
      (All-from_get_or (λ blob. length blob < 2 ^ 29) blobs [] (λ k h. (zip_at IsUseOf uses blobs k found [] all (omega (arith, h, AllZip-long IsUseOf uses blobs all))).short))

module _ (bytes : List BlobBytes) (firsts : List ℕ) (are : AreWritten bytes firsts) where
  abbrev used : List (List ℕ)
  used = all_bytes bytes firsts

  count : length used ≡ length firsts
  count = length-map firsts (bytes_at bytes)

  -- ---- one more use

  -- the use has the bytes of the next one: it is the next one itself, or the first one of an earlier use
  pub record IsFirstFor (next : BlobBytes) (first : ℕ) : Type 0 where
    pub at : bytes_at (bytes ++ next ∷ []) first ≡ bytes_in next
    pub low : first ≤ length firsts
    pub has : first < length firsts → used_at used first ≡ bytes_in next
    pub empty : length (bytes_in next) ≡ 0 → first ≡ length firsts

  pub next_first : (next : BlobBytes) (earlier own first : ℕ) → own ≡ length bytes → (length firsts ≤ earlier → first ≡ own) → (earlier < length firsts → first ≡ slice_index firsts earlier)
      → (earlier < length firsts → (used_at used earlier ≡ bytes_in next) × (0 < length (bytes_in next))) → IsFirstFor next first
  next_first next earlier own first last fresh known same = ⊎_elim
      (λ (lt : earlier < length firsts).
      let has = are.each earlier lt in
      let low : slice_index firsts earlier < length bytes = omega (arith, has.within, lt, are.len) in
      subst (IsFirstFor next) (sym (known lt)) (record {
        at = ap bytes_in (get_or_append_left bytes (next ∷ []) no_bytes (slice_index firsts earlier) low) ∙ sym (bytes_read bytes firsts earlier lt) ∙ (same lt).0;
        low = omega (arith, has.within, lt);
        has = λ _. has.same ∙ (same lt).0;
        empty = λ none. absurd (omega (arith, none, (same lt).1));
      }))
      (λ (past : length firsts ≤ earlier). subst (IsFirstFor next) (sym (fresh past ∙ last)) (record {
        at = ap bytes_in (get_or_push bytes next no_bytes (length bytes) refl);
        low = omega (arith, are.len);
        has = λ low. absurd (omega (arith, low, are.len));
        empty = λ none. sym are.len;
      }))
      (cases_lt earlier (length firsts))

  module _ (next : BlobBytes) (first : ℕ) (is : IsFirstFor next first) where
    -- its blob is the last one
    pub bytes_push : all_bytes (bytes ++ next ∷ []) (firsts ++ first ∷ []) ≡ all_bytes bytes firsts ++ bytes_in next ∷ []
    bytes_push =
        let more = bytes ++ next ∷ [] in
        map_push (bytes_at more) firsts first
        ∙ ap (λ blob. map (bytes_at more) firsts ++ blob ∷ []) is.at
        ∙ ap (λ list. list ++ bytes_in next ∷ []) (same_map (λ (k : ℕ). k < length bytes) (bytes_at more) (bytes_at bytes)
        (λ k low. ap bytes_in (get_or_append_left bytes (next ∷ []) no_bytes k low)) firsts
        (All-from_get_or (λ (k : ℕ). k < length bytes) firsts 0 (λ k h. omega (arith, (are.each k h).within, h, are.len))))

    pub written_push : AreWritten (bytes ++ next ∷ []) (firsts ++ first ∷ [])
    written_push =
        let blob = bytes_in next in
        let all = used ++ blob ∷ [] in
        let others = firsts ++ first ∷ [] in
        let long = length_push firsts first in
        let old : (k : ℕ) → k < length firsts → slice_index others k ≡ slice_index firsts k = λ k h. get_or_append_left firsts (first ∷ []) 0 k h in
        let last : slice_index others (length firsts) ≡ first = get_or_push firsts first 0 (length firsts) refl in
        let read : (k : ℕ) → k < length firsts → used_at all k ≡ used_at used k = λ k h. get_or_append_left used (blob ∷ []) [] k (omega (arith, h, count)) in
        let own : used_at all (length firsts) ≡ blob = get_or_push used blob [] (length firsts) count in
        let here : used_at all first ≡ blob = ⊎_elim
        (λ (low : first < length firsts). read first low ∙ is.has low)
        (λ (at : first ≡ length firsts). ap (used_at all) at ∙ own)
        (last_cases first (length firsts) (omega (arith, is.low))) in
        let each : (k : ℕ) → k < length others → HasText all k (slice_index others k) = λ k h. ⊎_elim
        (λ (low : k < length firsts).
        let has = are.each k low in
        subst (HasText all k) (sym (old k low)) (record { within = has.within; same = read (slice_index firsts k) (omega (arith, has.within, low)) ∙ has.same ∙ sym (read k low) }))
        (λ (at : k ≡ length firsts). subst (λ i. HasText all i (slice_index others i)) (sym at)
        (subst (HasText all (length firsts)) (sym last) (record { within = is.low; same = here ∙ sym own })))
        (last_cases k (length firsts) (omega (arith, h, long))) in
        let empty : (k : ℕ) → k < length others → length (used_at all k) ≡ 0 → slice_index others k ≡ k = λ k h none. ⊎_elim
        (λ (low : k < length firsts). old k low ∙ are.empty k low (ap length (sym (read k low)) ∙ none))
        (λ (at : k ≡ length firsts).
        let nothing : length blob ≡ 0 = ap length (sym own ∙ ap (used_at all) (sym at)) ∙ none in
        subst (λ i. slice_index others i ≡ i) (sym at) (last ∙ is.empty nothing))
        (last_cases k (length firsts) (omega (arith, h, long))) in
        record {
          len = omega (arith, long, are.len, length_push bytes next);
          each = subst (λ (list : List (List ℕ)). (k : ℕ) → k < length others → HasText list k (slice_index others k)) (sym bytes_push) each;
          empty = subst (λ (list : List (List ℕ)). (k : ℕ) → k < length others → length (used_at list k) ≡ 0 → slice_index others k ≡ k) (sym bytes_push) empty;
        }

  -- ---- the bytes of the first uses alone

  module _ (after : List BlobBytes) (news : List ℕ) (found : AreFirsts used news) (len : length after ≡ length bytes)
      (kept : (k : ℕ) → slice_index news k ≡ k → bytes_at after k ≡ bytes_at bytes k) where
    -- an earlier use with the blob of a first one is this one
    module _ (k : ℕ) (h : k < length used) where
      abbrev first : ℕ
      first = slice_index news k

      is : IsFirstUse used k first
      is = found.each k h h

      unmoved : (earlier : ℕ) → HasText used first earlier → (length (used_at used first) ≡ 0 → earlier ≡ first) → earlier ≡ first
      unmoved earlier has empty = ⊎_elim
          (λ (some : 0 < length (used_at used first)). ⊎_elim
          (λ (low : earlier < first). absurd (is.fresh (subst (λ (l : List ℕ). 0 < length l) is.same some) earlier low (has.same ∙ is.same)))
          (λ (same : earlier ≡ first). same)
          (last_cases earlier first (omega (arith, has.within))))
          (λ (none : 0 ≡ length (used_at used first)). empty (sym none))
          (last_cases 0 (length (used_at used first)) (omega arith))

      low : first < length used
      low = omega (arith, is.within, h)

      own_now : slice_index news first ≡ first
      own_now =
          let again = found.each first low low in
          unmoved (slice_index news first) (record { within = again.within; same = again.same }) (found.empty first low low)

      own_before : slice_index firsts first ≡ first
      own_before = unmoved (slice_index firsts first) (are.each first (omega (arith, low, count))) (are.empty first (omega (arith, low, count)))

      pub blob_kept : bytes_at after first ≡ used_at used k
      blob_kept = kept first own_now ∙ ap (bytes_at bytes) (sym own_before) ∙ sym (bytes_read bytes firsts first (omega (arith, low, count))) ∙ is.same

    pub bytes_same : all_bytes after news ≡ all_bytes bytes firsts
    bytes_same =
        let long = length-map news (bytes_at after) in
        ext_get_or [] (all_bytes after news) used (omega (arith, long, found.len))
        (λ k h. bytes_read after news k (omega (arith, h, long)) ∙ blob_kept k (omega (arith, h, long, found.len)))

    pub written_same : AreWritten after news
    written_same =
        let each : (k : ℕ) → k < length news → HasText used k (slice_index news k) =
        λ k h. let is = found.each k (omega (arith, h, found.len)) (omega (arith, h, found.len)) in record { within = is.within; same = is.same } in
        let empty : (k : ℕ) → k < length news → length (used_at used k) ≡ 0 → slice_index news k ≡ k =
        λ k h none. found.empty k (omega (arith, h, found.len)) (omega (arith, h, found.len)) none in
        record {
          len = omega (arith, found.len, count, are.len, len);
          each = subst (λ (list : List (List ℕ)). (k : ℕ) → k < length news → HasText list k (slice_index news k)) (sym bytes_same) each;
          empty = subst (λ (list : List (List ℕ)). (k : ℕ) → k < length news → length (used_at list k) ≡ 0 → slice_index news k ≡ k) (sym bytes_same) empty;
        }
