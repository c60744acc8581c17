-- The numbers of cells fit the widths of the canonical table stream.
use Rattle.root_writer.proofs.Prelude.{◌≡◌, ℕ, zero, suc, ◌+◌, ◌-◌, ◌*◌, ◌/◌, ◌%◌, ◌^◌, ◌<◌, ◌≤◌, Bool, true, false, not, cond, eqb, ltb, leb, List, [], ◌∷◌, ◌++◌, length, get_or, refl, ap, subst, ◌∙◌, ◌⊎◌, inl, inr, Option, Some, None, arith, length-append, slice_get, list_all, cond_both, leb-false, not-true, and_parts, ltb-true, nat_tests, get_or-map, mul-add-lt, TableId, Module, Coded, tables, table_index_of, tables_of, tag_bits, Sizes, count_of, narrow_or_wide, heap_width, is_below, coded_width, IsText, IsBlob, IsGuid, Metadata, count_in, texts_stream, blobs_stream, guids_stream, sizes_of}
use Rattle.packed.specs.Packed.{IsPacked}
use Rattle.table_schema.proofs.CodedLemmas.{tag_narrow, tag_wide}
use Rattle.table_schema.proofs.TableFacts.{table_at_index, table_index_below, length-tables}

-- ---- indexes lie within their heaps

pub text_within : (heap : List ℕ) (index : ℕ) (text : List ℕ) → IsText heap index text → (index ≡ 0) ⊎ (index < length heap)
text_within heap index text (inl e) = inl e.0
text_within heap index text (inr is) =
    let entry = is.1 in
    inr (omega (arith, ap length entry.whole, length-append entry.before (text ++ 0 ∷ entry.after), length-append text (0 ∷ entry.after), entry.at))

counted_within : (before blob after heap : List ℕ) (index : ℕ) (count : List ℕ) → IsPacked (length blob) count
    → length heap ≡ length before + length (count ++ (blob ++ after)) → length before ≡ index → index < length heap
counted_within before blob after heap index count (inl p) e at = omega (arith, length-append count (blob ++ after), ap length p.1)
counted_within before blob after heap index count (inr (inl p)) e at = omega (arith, length-append count (blob ++ after), ap length p.1)
counted_within before blob after heap index count (inr (inr p)) e at = omega (arith, length-append count (blob ++ after), ap length p.1)

pub blob_within : (heap : List ℕ) (index : ℕ) (blob : List ℕ) → IsBlob heap index blob → (index ≡ 0) ⊎ (index < length heap)
blob_within heap index blob (inl e) = inl e.0
blob_within heap index blob (inr is) =
    let entry = is.1 in
    inr (counted_within entry.before blob entry.after heap index entry.count entry.counts
    (ap length entry.whole ∙ length-append entry.before (entry.count ++ (blob ++ entry.after))) entry.at)

pub guid_within : (heap : List ℕ) (index : ℕ) (guid : Option (List ℕ)) → IsGuid heap index guid → (index ≡ 0) ⊎ (index < length heap)
guid_within heap index None e = inl e
guid_within heap index (Some guid) is =
    let entry = is.1 in
    inr (omega (arith, is.0, ap length entry.whole, length-append entry.before (guid ++ entry.after), length-append guid entry.after, entry.at, entry.long))

-- ---- the width of a heap's indexes depends on the length of its stream

heap_bits : (a b c : Bool) → ((eqb ((cond a 1 0 + cond b 2 0 + cond c 4 0) / 1 % 2) 0 ≡ not a)
    × (eqb ((cond a 1 0 + cond b 2 0 + cond c 4 0) / 2 % 2) 0 ≡ not b)) × (eqb ((cond a 1 0 + cond b 2 0 + cond c 4 0) / 4 % 2) 0 ≡ not c)
heap_bits true true true = ((refl, refl), refl)
heap_bits true false true = ((refl, refl), refl)
heap_bits false true true = ((refl, refl), refl)
heap_bits false false true = ((refl, refl), refl)
heap_bits _ _ _ = ((refl, refl), refl)

bit_most : (b : Bool) (n : ℕ) → cond b n 0 ≤ n
bit_most true n = omega arith
bit_most false n = omega arith

heap_sizes_below : (a b c : Bool) → cond a 1 0 + cond b 2 0 + cond c 4 0 < 8
heap_sizes_below a b c = omega (arith, bit_most a 1, bit_most b 2, bit_most c 4)

-- an index has two or four bytes, depending on the length of its stream
abbrev pub index_width : List ℕ → ℕ
index_width stream = narrow_or_wide (not (leb (2 ^ 16) (length stream)))

pub index_fits : (index : ℕ) (stream : List ℕ) → (index ≡ 0) ⊎ (index < length stream) → length stream ≤ 2 ^ 30 → index < 256 ^ index_width stream
index_fits index stream within small =
    cond_both (not (leb (2 ^ 16) (length stream))) 2 4 (λ width. index < 256 ^ width)
    (λ e. few_of (leb-false (2 ^ 16) (length stream) (not-true _ e)) within) (λ e. below within)
  where
    below : (index ≡ 0) ⊎ (index < length stream) → index < 4294967296
    below (inl e) = omega arith
    below (inr l) = omega arith

    few_of : length stream < 2 ^ 16 → (index ≡ 0) ⊎ (index < length stream) → index < 65536
    few_of few (inl e) = omega arith
    few_of few (inr l) = omega arith

module _ (model : Metadata) where
  bits : ((heap_width (sizes_of model) 1 ≡ index_width (texts_stream model)) × (heap_width (sizes_of model) 2 ≡ index_width (guids_stream model)))
      × (heap_width (sizes_of model) 4 ≡ index_width (blobs_stream model))
  unfolding sizes_of
  bits =
      let all = heap_bits (leb (2 ^ 16) (length (texts_stream model))) (leb (2 ^ 16) (length (guids_stream model)))
      (leb (2 ^ 16) (length (blobs_stream model))) in
      ((ap narrow_or_wide all.0.0, ap narrow_or_wide all.0.1), ap narrow_or_wide all.1)

  pub texts_width : heap_width (sizes_of model) 1 ≡ index_width (texts_stream model)
  texts_width = bits.0.0

  pub guids_width : heap_width (sizes_of model) 2 ≡ index_width (guids_stream model)
  guids_width = bits.0.1

  pub blobs_width : heap_width (sizes_of model) 4 ≡ index_width (blobs_stream model)
  blobs_width = bits.1

  pub heap_sizes_low : (sizes_of model).heap_sizes < 8
  unfolding sizes_of
  heap_sizes_low = heap_sizes_below (leb (2 ^ 16) (length (texts_stream model))) (leb (2 ^ 16) (length (guids_stream model)))
      (leb (2 ^ 16) (length (blobs_stream model)))

  pub count_is : (table : TableId) → count_of (sizes_of model) table ≡ count_in model table
  unfolding sizes_of
  count_is table =
      let below : table_index_of table < length tables = omega (arith, table_index_below table, length-tables) in
      get_or-map (count_in model) tables (table_index_of table) Module 0 below ∙ ap (count_in model) (table_at_index table)

-- ---- rows

pub row_fits : (number count : ℕ) → number ≤ count → count ≤ 0xFFFFFF → number < 256 ^ narrow_or_wide (ltb count (2 ^ 16))
row_fits number count low small =
    cond_both (ltb count (2 ^ 16)) 2 4 (λ width. number < 256 ^ width) (λ e. let few = ltb-true count (2 ^ 16) e in let fits : number < 65536 = omega arith in fits)
    (λ e. let fits : number < 4294967296 = omega arith in fits)

-- ---- tags

below_listed : (sizes : Sizes) (limit : ℕ) (listed : List (Option TableId)) (tag : ℕ) (table : TableId)
    → list_all (is_below sizes limit) listed ≡ true → slice_get listed tag ≡ Some (Some table) → count_of sizes table < limit
below_listed sizes limit [] tag table all e = cc
below_listed sizes limit (None ∷ listed) zero table all e = cc
below_listed sizes limit (None ∷ listed) (suc tag) table all e = below_listed sizes limit listed tag table all e
below_listed sizes limit (Some other ∷ listed) zero table all e =
    let same : other ≡ table = cc in
    let low = (and_parts (ltb (count_of sizes other) limit) (list_all (is_below sizes limit) listed) all).0 in
    let less : count_of sizes other < limit = grind (arith, nat_tests) in
    subst (λ t. count_of sizes t < limit) same less
below_listed sizes limit (Some other ∷ listed) (suc tag) table all e =
    below_listed sizes limit listed tag table (and_parts (ltb (count_of sizes other) limit) (list_all (is_below sizes limit) listed) all).1 e

-- a row and a tag of a listed table fit the width of the coded index
pub coded_fits : (sizes : Sizes) (coded : Coded) (table : TableId) (row tag : ℕ) → slice_get (tables_of coded) tag ≡ Some (Some table)
    → tag < 2 ^ tag_bits coded
    → row ≤ count_of sizes table → count_of sizes table ≤ 0xFFFFFF → row * 2 ^ tag_bits coded + tag < 256 ^ coded_width sizes coded
coded_fits sizes coded table row tag is low there small =
    cond_both narrow 2 4 (λ width. row * 2 ^ tag_bits coded + tag < 256 ^ width)
    (λ e.
    let few = below_listed sizes (2 ^ (16 - tag_bits coded)) (tables_of coded) tag table e is in
    let fits : row * 2 ^ tag_bits coded + tag < 65536 =
    subst (λ n. row * 2 ^ tag_bits coded + tag < n) (tag_narrow coded)
    (mul-add-lt row (2 ^ tag_bits coded) tag (2 ^ (16 - tag_bits coded)) (omega arith) low) in
    fits)
    (λ e.
    let below = mul-add-lt row (2 ^ tag_bits coded) tag (2 ^ 24) (omega arith) low in
    let fits : row * 2 ^ tag_bits coded + tag < 4294967296 = omega (arith, below, tag_wide coded) in
    fits)
  where
    narrow : Bool
    narrow = list_all (is_below sizes (2 ^ (16 - tag_bits coded))) (tables_of coded)
