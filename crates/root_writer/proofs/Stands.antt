-- The number of a cell encodes the cell, kind by kind.
use Rattle.root_writer.proofs.Prelude.{◌≡◌, ℕ, ◌+◌, ◌*◌, ◌%◌, ◌^◌, ◌<◌, ◌≤◌, Bool, true, ltb, List, [], ◌∷◌, length, Contains, All, IsUtf8, refl, sym, ap, ◌∙◌, ◌⊎◌, inl, inr, Option, Some, None, IfSome, arith, slice_get, position_or_len, cond_both, pow_pos, mod-eq_of_lt, TableId, Token, Coded, ColumnKind, tables_of, tag_bits, IsCoded, count_of, narrow_or_wide, heap_width, row_index_width, coded_width, kind_width, distinct, HasNoNul, IsText, IsBlob, IsGuid, text_index, blob_index, guid_index, is_table, short, tokens, Cell, Start, Metadata, count_in, Source, IsThere, StandsFor, Refers, used, texts_of, blobs_of, guids_of, pools_of, texts_stream, blobs_stream, guids_stream, cell_number, sizes_of}
use Rattle.table_schema.specs.declared.column.ColumnKind.TheVariants as kind
use Rattle.metadata.proofs.ItemLemmas.{all_weaker}
use Rattle.root_writer.proofs.HeldRoots.{HasRow, MayRefer, IsValidCell}
use Rattle.heap_pools.proofs.MemberLemmas.{IsIn, contains_from_in, in_distinct}
use Rattle.heap_pools.proofs.FoundLemmas.{blob_found, guid_found, text_found}
use Rattle.table_schema.proofs.CodedLemmas.{tables_few}
use Rattle.root_writer.proofs.Facts.{Facts}
use Rattle.table_schema.proofs.CodedLemmas.{tag_below}
use Rattle.metadata.proofs.KeyLemmas.{tag_listed}
use Rattle.root_writer.proofs.Widths.{text_within, blob_within, guid_within, index_fits, texts_width, guids_width, blobs_width, count_is, row_fits, coded_fits}

-- the source from which the cells of the canonical root are read
abbrev pub source_with : Metadata → List (List (List ℕ)) → Source
source_with model numbers =
    record { sizes = sizes_of model; numbers = numbers; texts = texts_stream model; blobs = blobs_stream model; guids = guids_stream model }

-- the values of a cell are among those of the model
pub record IsUsed (model : Metadata) (cell : Cell) : Type 0 where
  pub texts : (value : List ℕ) → IsIn value (texts_of cell) → IsIn value (used texts_of model)
  pub blobs : (value : List ℕ) → IsIn value (blobs_of cell) → IsIn value (used blobs_of model)
  pub guids : (value : List ℕ) → IsIn value (guids_of cell) → IsIn value (used guids_of model)

-- the model is within the limits that make the column widths sufficient
pub record IsWithin (model : Metadata) : Type 0 where
  pub texts : length (texts_stream model) ≤ 2 ^ 30
  pub blobs : length (blobs_stream model) ≤ 2 ^ 30
  pub guids : length (guids_stream model) ≤ 2 ^ 30
  pub counts : (table : TableId) → count_in model table ≤ 0xFFFFFF
  pub sixteen : All (λ guid. length guid ≡ 16) (distinct (used guids_of model))

-- the kind has a number for null: 0, whose tag is in use
abbrev pub HasNull : ColumnKind → Type 0
HasNull k = (coded : Coded) × (first : TableId) × (k ≡ kind.Coded coded) × (slice_get (tables_of coded) 0 ≡ Some (Some first))

module _ (model : Metadata) (within : IsWithin model) where
  text_stands : (text : List ℕ) → IsIn text (used texts_of model) → HasNoNul text → IsUtf8 text
      → IsText (texts_stream model) (text_index (pools_of model).texts text % 256 ^ heap_width (sizes_of model) 1) text
  text_stands text here plain utf8 =
      let found = text_found (used texts_of model) text _ (contains_from_in _ text here) plain utf8 in
      let fits = index_fits (text_index (pools_of model).texts text) (texts_stream model) (text_within (texts_stream model) _ text found) within.texts in
      rw (texts_width model, mod-eq_of_lt fits) found

  blob_stands : (blob : List ℕ) → IsIn blob (used blobs_of model) → length blob < 2 ^ 29
      → IsBlob (blobs_stream model) (blob_index (pools_of model).blobs blob % 256 ^ heap_width (sizes_of model) 4) blob
  blob_stands blob here small =
      let found = blob_found (distinct (used blobs_of model)) blob _ (pooled blob here) small in
      let fits = index_fits (blob_index (pools_of model).blobs blob) (blobs_stream model) (blob_within (blobs_stream model) _ blob found) within.blobs in
      rw (blobs_width model, mod-eq_of_lt fits) found
    where
      pooled : (blob : List ℕ) → IsIn blob (used blobs_of model) → (blob ≡ []) ⊎ Contains (distinct (used blobs_of model)) blob
      pooled [] here = inl refl
      pooled (byte ∷ bytes) here = inr (contains_from_in _ (byte ∷ bytes) (in_distinct (used blobs_of model) (byte ∷ bytes) here (omega arith)))

  guid_stands : (guid : Option (List ℕ)) → IfSome guid (λ bytes. length bytes ≡ 16) → ((bytes : List ℕ) → guid ≡ Some bytes → IsIn bytes (used guids_of model))
      → IsGuid (guids_stream model) (guid_index (pools_of model).guids guid % 256 ^ heap_width (sizes_of model) 2) guid
  guid_stands None long here = rw (guids_width model) (mod-eq_of_lt (index_fits 0 (guids_stream model) (inl refl) within.guids))
  guid_stands (Some guid) long here =
      let sixteen : length guid ≡ 16 = long in
      let there = contains_from_in _ guid (in_distinct (used guids_of model) guid (here guid refl) (omega (arith, sixteen))) in
      let found = guid_found (distinct (used guids_of model)) guid _ there within.sixteen in
      let fits = index_fits (guid_index (pools_of model).guids (Some guid)) (guids_stream model) (guid_within (guids_stream model) _ (Some guid) found)
      within.guids in
      rw (guids_width model, mod-eq_of_lt fits) found

  few : (table : TableId) → count_of (sizes_of model) table ≤ 0xFFFFFF
  few table = rw (count_is model table) (within.counts table)

  there : (numbers : List (List (List ℕ))) (token : Token) → HasRow model token → IsThere (source_with model numbers) token
  there numbers token has = (has.0, rw (count_is model token.table) has.1)

  row_stands : (numbers : List (List (List ℕ))) (nullable : Bool) (table : TableId) (cell : Cell) → MayRefer model nullable (λ other. other ≡ table) cell
      → Refers (source_with model numbers) nullable
      (record { table = table; row = cell_number (pools_of model) (kind.Row table) cell % 256 ^ row_index_width (sizes_of model) table }) cell
  row_stands numbers nullable table cell (inl null) =
      let none : 0 % 256 ^ row_index_width (sizes_of model) table ≡ 0 = mod-eq_of_lt (row_fits 0 (count_of (sizes_of model) table) (omega arith) (few table)) in
      inl (ap (λ c. cell_number (pools_of model) (kind.Row table) c % 256 ^ row_index_width (sizes_of model) table) null.1 ∙ none, null.0, null.1)
  row_stands numbers nullable table cell (inr is) =
      let token = is.0 in
      let same : token.table ≡ table = is.1 in
      let has = there numbers token is.2 in
      let fits : token.row < 256 ^ row_index_width (sizes_of model) table =
      row_fits token.row (count_of (sizes_of model) table) (rw (← same) (has.1)) (few table) in
      rw (is.3, mod-eq_of_lt fits, ← same) (inr (has, refl))

  coded_stands : (numbers : List (List (List ℕ))) (nullable : Bool) (coded : Coded) (cell : Cell) → (nullable ≡ true → HasNull (kind.Coded coded))
      → MayRefer model nullable (λ table. Contains (tables_of coded) (Some table)) cell
      → (token : Token) × IsCoded coded (cell_number (pools_of model) (kind.Coded coded) cell % 256 ^ coded_width (sizes_of model) coded) token.table token.row
      × Refers (source_with model numbers) nullable token cell
  coded_stands numbers nullable coded cell null_used (inl null) =
      let has = null_used null.0 in
      let same : has.0 ≡ coded = cc in
      let used : slice_get (tables_of coded) 0 ≡ Some (Some has.1) = ap (λ c. slice_get (tables_of c) 0) (sym same) ∙ has.3 in
      let fits = coded_fits (sizes_of model) coded has.1 0 0 used (pow_pos (tag_bits coded)) (omega arith) (few has.1) in
      let none : 0 < 256 ^ coded_width (sizes_of model) coded = omega (arith, fits) in
      let zero_tag : 0 ≡ 0 * 2 ^ tag_bits coded + 0 = omega arith in (
        record { table = has.1; row = 0 },
        record {
          tag = 0;
          listed = used;
          equal = ap (λ c. cell_number (pools_of model) (kind.Coded coded) c % 256 ^ coded_width (sizes_of model) coded)
              null.1 ∙ mod-eq_of_lt none ∙ zero_tag;
        },
        inl (refl, null.0, null.1),
      )
  coded_stands numbers nullable coded cell null_used (inr is) =
      let token = is.0 in
      let has = there numbers token is.2 in
      let tag = tag_listed coded token.table is.1 in
      let low = tag_below coded (position_or_len (is_table token.table) (tables_of coded)) token.table tag in
      let fits = coded_fits (sizes_of model) coded token.table token.row (position_or_len (is_table token.table) (tables_of coded)) tag low has.1
      (few token.table) in (
        token,
        record {
          tag = position_or_len (is_table token.table) (tables_of coded);
          listed = tag;
          equal = ap (λ c. cell_number (pools_of model) (kind.Coded coded) c % 256 ^ coded_width (sizes_of model) coded) is.3 ∙ mod-eq_of_lt fits;
        },
        inr (has, is.3),
      )

low_start : (count start : ℕ) → start ≤ count + 1 → start % 256 ^ narrow_or_wide (ltb count (2 ^ 16)) ≤ count + 1
low_start count start low =
    cond_both (ltb count (2 ^ 16)) 2 4 (λ width. start % 256 ^ width ≤ count + 1)
    (λ e. let less : start % 65536 ≤ count + 1 = omega arith in less) (λ e. let less : start % 4294967296 ≤ count + 1 = omega arith in less)

-- the number of a valid cell encodes the cell
pub stands : Facts → (model : Metadata) → IsWithin model
    → (numbers : List (List (List ℕ))) (k : ColumnKind) (nullable : Bool) (start : TableId → ℕ) (cell : Cell)
    → IsUsed model cell → (nullable ≡ true → HasNull k) → ((member : TableId) → k ≡ kind.List member → start member ≡ cell_number (pools_of model) k cell)
    → IsValidCell model k nullable cell
    → StandsFor (source_with model numbers) k nullable start (cell_number (pools_of model) k cell % 256 ^ kind_width (sizes_of model) k) cell
stands facts model within numbers kind.U8 nullable start cell here null starts valid = let fits = valid.1 in rw (valid.2, mod-eq_of_lt fits) refl
stands facts model within numbers kind.U16 nullable start cell here null starts valid = let fits = valid.1 in rw (valid.2, mod-eq_of_lt fits) refl
stands facts model within numbers kind.U32 nullable start cell here null starts valid = let fits = valid.1 in rw (valid.2, mod-eq_of_lt fits) refl
stands facts model within numbers kind.Padding nullable start cell here null starts valid = valid
stands facts model within numbers kind.Text nullable start cell here null starts valid =
    let e = valid.3 in
    (valid.0, rw e (text_stands model within valid.0 (here.texts valid.0 (rw e (inl refl))) valid.1 valid.2), e)
stands facts model within numbers kind.Guid nullable start cell here null starts valid =
    let e = valid.2 in
    (valid.0, rw e (guid_stands model within valid.0 valid.1 (λ bytes same. here.guids bytes (rw e (rw same (inl refl))))), e)
stands facts model within numbers kind.Blob nullable start cell here null starts valid =
    let e = valid.2 in
    (valid.0, rw e (blob_stands model within valid.0 (here.blobs valid.0 (rw e (inl refl))) valid.1), e)
stands facts model within numbers (kind.Signature column) nullable start cell here null starts valid =
    let signature = valid.0 in
    let e = valid.4 in
    let encodes = facts.encodes column signature valid.1 valid.2 in (
      short signature,
      signature,
      rw e (blob_stands model within (short signature) (here.blobs (short signature) (rw e (inl refl))) encodes.limit),
      encodes,
      all_weaker (HasRow model) (IsThere (source_with model numbers)) (there model within numbers) (tokens signature) valid.3,
      e,
    )
stands facts model within numbers (kind.Row table) nullable start cell here null starts valid = row_stands model within numbers nullable table cell valid
stands facts model within numbers (kind.Coded coded) nullable start cell here null starts valid =
    coded_stands model within numbers nullable coded cell null valid
stands facts model within numbers (kind.List member) nullable start cell here null starts valid =
    let e = valid.2 in
    let low = low_start (count_of (sizes_of model) member) valid.0 (rw (count_is model member) valid.1) in
    (rw e low, e ∙ ap Start (sym (starts member refl ∙ ap (cell_number (pools_of model) (kind.List member)) e)))
