-- The values that cells use, cell by cell.
use Rattle.cell_numbering.proofs.Prelude.{◌≡◌, ℕ, zero, suc, ◌+◌, ◌<◌, ◌≤◌, ◌^◌, List, [], ◌∷◌, ◌++◌, length, get_or, take, Some, None, Option, refl, sym, ap, subst, ◌∙◌, append_assoc, append-nil, arith, flat_map, AllZip, Bor, take_more, take_all, flat_map-append, SigKind, ColumnKind, given, Cell, Bytes, Guid, Sig, Metadata, CanBeNumbered, CellId, HasCell, IsBlobKind, ShareBlob, cell_by_id, kind_by_id, texts_of, blobs_of, guids_of, used, BlobUse, AreUsesIn, GivesBlob, IsUseIn, IsUseOf, all_cells, guid_of}
use Rattle.std.proofs.lemmas.Slice.Zip.{AllZip-long}
use Rattle.table_schema.specs.declared.column.ColumnKind.TheVariants as kind
use Rattle.sig_grammar.specs.Encodes.{short}
use Rattle.metadata_source.specs.SignatureBytes.{AreBytesOf}
use Rattle.metadata_source.specs.declared.signature_bytes.SignatureBytes.{SignatureBytes}
use Rattle.metadata_source.specs.declared.signature_bytes.SignatureBytes.TheVariants.{Stored, Canonical}
use Rattle.cell_numbering.specs.declared.blob_uses.BlobUses.{BlobUses}
use Rattle.cell_numbering.specs.declared.heap_uses.HeapUses.{HeapUses}
use Rattle.cell_numbering.specs.declared.text_uses.TextUses.{TextUses}
use Rattle.cell_numbering.specs.BlobUses.{AreBlobUses, IsAtIndex, ReferTo}
use Rattle.cell_numbering.specs.TextUses.{AreTextUses}
use Rattle.cell_numbering.proofs.BlobLemmas.{kept_use, known_use, no_kept}
use Rattle.cell_numbering.proofs.KindLemmas.{IsNoText}

-- ---- related lists

pub zip_append : {X Y : Type 0} (R : X → Y → Type 0) (xs : List X) (ys : List Y) (more : List X) (others : List Y) → AllZip R xs ys → AllZip R more others
    → AllZip R (xs ++ more) (ys ++ others)
zip_append R [] [] more others first second = second
zip_append R (x ∷ xs) (y ∷ ys) more others first second = (first.0, zip_append R xs ys more others first.1 second)
zip_append R _ _ more others first second = absurd first

pub zip_at : {X Y : Type 0} (R : X → Y → Type 0) (xs : List X) (ys : List Y) (k : ℕ) (d : X) (e : Y) → AllZip R xs ys → k < length xs → R (get_or xs k d) (get_or ys k e)
zip_at R [] ys k d e all below = absurd (omega (arith, below))
zip_at R (x ∷ xs) [] k d e all below = absurd all
zip_at R (x ∷ xs) (y ∷ ys) zero d e all below = all.0
zip_at R (x ∷ xs) (y ∷ ys) (suc k) d e all below = zip_at R xs ys k d e all.1 (omega (arith, below))

pub zip_weaker : {X Y : Type 0} (R S : X → Y → Type 0) → ((x : X) (y : Y) → R x y → S x y) → (xs : List X) (ys : List Y) → AllZip R xs ys → AllZip S xs ys
zip_weaker R S f [] [] all = tt
zip_weaker R S f (x ∷ xs) (y ∷ ys) all = (f x y all.0, zip_weaker R S f xs ys all.1)
zip_weaker R S f _ _ all = absurd all

-- ---- one more cell

flat_more : {X : Type 0} (f : Cell → List X) (cells : List Cell) (cell : Cell) → flat_map f (cells ++ cell ∷ []) ≡ flat_map f cells ++ f cell
flat_more f cells cell = flat_map-append f cells (cell ∷ []) ∙ ap (λ list. flat_map f cells ++ list) (append-nil (f cell))

module _ (index_of : CellId → Option ℕ) (model : Metadata) (before after : HeapUses) (cells : List Cell) (cell : Cell) (are : AreUsesIn index_of model before cells) where
  pub added : AreTextUses index_of model after.texts (flat_map texts_of cells ++ texts_of cell) → after.guids.items ≡ before.guids.items ++ guid_of cell
      → AreBlobUses (IsUseIn index_of model) after.blobs (flat_map blobs_of cells ++ blobs_of cell) → AreUsesIn index_of model after (cells ++ cell ∷ [])
  added texts guids blobs = record {
    texts = subst (AreTextUses index_of model after.texts) (sym (flat_more texts_of cells cell)) texts;
    guids = guids ∙ ap (λ list. list ++ guid_of cell) are.guids ∙ sym (flat_more guid_of cells cell);
    blobs = subst (λ list. AreBlobUses (IsUseIn index_of model) after.blobs list) (sym (flat_more blobs_of cells cell)) blobs;
  }

  no_more_texts : after.texts ≡ before.texts → texts_of cell ≡ [] → AreTextUses index_of model after.texts (flat_map texts_of cells ++ texts_of cell)
  no_more_texts same none =
      subst (λ (uses : TextUses). AreTextUses index_of model uses (flat_map texts_of cells ++ texts_of cell)) (sym same)
      (subst (AreTextUses index_of model before.texts) (sym (ap (λ list. flat_map texts_of cells ++ list) none ∙ append-nil (flat_map texts_of cells))) are.texts)

  no_more_guids : after.guids.items ≡ before.guids.items → guid_of cell ≡ [] → after.guids.items ≡ before.guids.items ++ guid_of cell
  no_more_guids same none = same ∙ sym (ap (λ list. before.guids.items ++ list) none ∙ append-nil before.guids.items)

  no_more_blobs : after.blobs ≡ before.blobs → blobs_of cell ≡ [] → AreBlobUses (IsUseIn index_of model) after.blobs (flat_map blobs_of cells ++ blobs_of cell)
  no_more_blobs same none =
      subst (λ (uses : BlobUses). AreBlobUses (IsUseIn index_of model) uses (flat_map blobs_of cells ++ blobs_of cell)) (sym same)
      (subst (AreBlobUses (IsUseIn index_of model) before.blobs) (sym (ap (λ list. flat_map blobs_of cells ++ list) none ∙ append-nil (flat_map blobs_of cells))) are.blobs)

  pub added_text : AreTextUses index_of model after.texts (flat_map texts_of cells ++ texts_of cell) → guid_of cell ≡ [] → blobs_of cell ≡ []
      → after.guids.items ≡ before.guids.items → after.blobs ≡ before.blobs → AreUsesIn index_of model after (cells ++ cell ∷ [])
  added_text texts no_guid no_blob guids blobs = added texts (no_more_guids guids no_guid) (no_more_blobs blobs no_blob)

  pub added_guid : (guid : Option (List ℕ)) → cell ≡ Guid guid → after.texts ≡ before.texts → after.guids.items ≡ before.guids.items ++ guid ∷ []
      → after.blobs ≡ before.blobs → AreUsesIn index_of model after (cells ++ cell ∷ [])
  added_guid guid is texts guids blobs =
      added (no_more_texts texts (ap texts_of is)) (guids ∙ sym (ap (λ c. before.guids.items ++ guid_of c) is)) (no_more_blobs blobs (ap blobs_of is))

  -- a blob, whose use is kept or refers to one that is
  pub added_blob : AreBlobUses (IsUseIn index_of model) after.blobs (flat_map blobs_of cells ++ blobs_of cell) → texts_of cell ≡ [] → guid_of cell ≡ [] → after.texts ≡ before.texts
      → after.guids.items ≡ before.guids.items → AreUsesIn index_of model after (cells ++ cell ∷ [])
  added_blob blobs no_text no_guid texts guids = added (no_more_texts texts no_text) (no_more_guids guids no_guid) blobs

-- the same uses, after a cell without a value
pub unchanged : (index_of : CellId → Option ℕ) (model : Metadata) (uses : HeapUses) (cells : List Cell) (cell : Cell) → AreUsesIn index_of model uses cells
    → texts_of cell ≡ [] → guid_of cell ≡ [] → blobs_of cell ≡ [] → AreUsesIn index_of model uses (cells ++ cell ∷ [])
unchanged index_of model uses cells cell are texts guids blobs =
    added index_of model uses uses cells cell are
    (no_more_texts index_of model uses uses cells cell are refl texts)
    (no_more_guids index_of model uses uses cells cell are refl guids)
    (no_more_blobs index_of model uses uses cells cell are refl blobs)

-- ---- the use of a blob

module _ (index_of : CellId → Option ℕ) (model : Metadata) (id : CellId) where
  -- the use is the one of the blob in the cell
  pub record IsOneUse (found : BlobUse) : Type 0 where
    pub blob : List ℕ
    pub has : blobs_of (cell_by_id model id) ≡ blob ∷ []
    pub is : IsUseIn index_of model found blob

module _ (index_of : CellId → Option ℕ) (model : Metadata) (id : CellId) (index : Option ℕ) (there : HasCell model id) (can : CanBeNumbered (cell_by_id model id)) (same : index ≡ index_of id) where
  one_use : (column : ColumnKind) (bytes : SignatureBytes) (blob : List ℕ) → blobs_of (cell_by_id model id) ≡ blob ∷ [] → kind_by_id id ≡ column → IsBlobKind column
      → GivesBlob column bytes blob → length blob < 2 ^ 29
      → IsOneUse index_of model id (record { kind = column; index = index; bytes = bytes })
  one_use column bytes blob has kind blobs gives short = record {
    blob = blob;
    has = has;
    is = record {
      of = record { gives = gives; short = short };
      indexed = λ i e. record { id = id; there = there; blobs = subst IsBlobKind (sym kind) blobs; kind = kind; at = sym same ∙ e; has = has };
    };
  }

  pub signature_use : (encoded : SigKind) (bytes : SignatureBytes) → kind_by_id id ≡ kind.Signature encoded → AreBytesOf encoded bytes (cell_by_id model id)
      → IsOneUse index_of model id (record { kind = kind.Signature encoded; index = index; bytes = bytes })
  signature_use encoded (Stored blob) column are =
      one_use (kind.Signature encoded) (Stored blob) (short are.0) (ap blobs_of are.2) column tt (are.0, are.1, refl) (subst CanBeNumbered are.2 can)
  signature_use encoded (Canonical bytes) column are =
      one_use (kind.Signature encoded) (Canonical bytes) (short are.0) (ap blobs_of are.2) column tt (sym are.1) (subst CanBeNumbered are.2 can)

  pub blob_use : (column : ColumnKind) (blob : Bor (List ℕ)) → kind_by_id id ≡ column → column ≡ kind.Blob → cell_by_id model id ≡ Bytes blob.now
      → IsOneUse index_of model id (record { kind = column; index = index; bytes = Stored blob })
  blob_use column blob kind is has =
      one_use column (Stored blob) blob.now (ap blobs_of has) kind (subst IsBlobKind (sym is) tt)
      (subst (λ (k : ColumnKind). GivesBlob k (Stored blob) blob.now) (sym is) refl) (subst CanBeNumbered has can)

-- ---- the parts of a list of cells

pub next_part : (index_of : CellId → Option ℕ) (model : Metadata) (uses : HeapUses) {X : Type 0} (f : X → List Cell) (cells : List Cell) (xs : List X) (k : ℕ) (d : X) → k < length xs
    → AreUsesIn index_of model uses ((cells ++ flat_map f (take k xs)) ++ f (get_or xs k d)) → AreUsesIn index_of model uses (cells ++ flat_map f (take (k + 1) xs))
next_part index_of model uses f cells xs k d below are =
    let here = get_or xs k d in
    subst (AreUsesIn index_of model uses)
    (append_assoc cells (flat_map f (take k xs)) (f here)
    ∙ ap (λ l. cells ++ (flat_map f (take k xs) ++ l)) (sym (append-nil (f here)))
    ∙ ap (λ l. cells ++ l) (sym (flat_map-append f (take k xs) (here ∷ [])))
    ∙ ap (λ l. cells ++ flat_map f l) (sym (take_more xs k d below))) are

pub next_cell_in : (index_of : CellId → Option ℕ) (model : Metadata) (uses : HeapUses) (cells xs : List Cell) (k : ℕ) (d : Cell) → k < length xs
    → AreUsesIn index_of model uses ((cells ++ take k xs) ++ get_or xs k d ∷ []) → AreUsesIn index_of model uses (cells ++ take (k + 1) xs)
next_cell_in index_of model uses cells xs k d below are =
    subst (AreUsesIn index_of model uses) (append_assoc cells (take k xs) (get_or xs k d ∷ []) ∙ ap (λ l. cells ++ l) (sym (take_more xs k d below))) are

pub all_parts : (index_of : CellId → Option ℕ) (model : Metadata) (uses : HeapUses) {X : Type 0} (f : X → List Cell) (cells : List Cell) (xs : List X) (k : ℕ) → length xs ≤ k
    → AreUsesIn index_of model uses (cells ++ flat_map f (take k xs)) → AreUsesIn index_of model uses (cells ++ flat_map f xs)
all_parts index_of model uses f cells xs k past are = subst (λ l. AreUsesIn index_of model uses (cells ++ flat_map f l)) (take_all k xs past) are

pub all_cells_in : (index_of : CellId → Option ℕ) (model : Metadata) (uses : HeapUses) (cells xs : List Cell) (k : ℕ) → length xs ≤ k
    → AreUsesIn index_of model uses (cells ++ take k xs) → AreUsesIn index_of model uses (cells ++ xs)
all_cells_in index_of model uses cells xs k past are = subst (λ l. AreUsesIn index_of model uses (cells ++ l)) (take_all k xs past) are

-- ---- all uses

flat_row : {X Y : Type 0} (f : Y → List X) (rows : List (List Y)) → flat_map (flat_map f) rows ≡ flat_map f (flat_map (λ row. row) rows)
flat_row f [] = refl
flat_row f (row ∷ rows) = ap (λ list. flat_map f row ++ list) (flat_row f rows) ∙ sym (flat_map-append f row (flat_map (λ row. row) rows))

flat_flat : {X : Type 0} (f : Cell → List X) (all : List (List (List Cell))) → flat_map (flat_map (flat_map f)) all ≡ flat_map f (flat_map (flat_map (λ row. row)) all)
flat_flat f all = flat_row (flat_map f) all ∙ flat_row f (flat_map (λ rows. rows) all) ∙ ap (flat_map f) (sym (flat_row (λ (row : List Cell). row) all))

-- the values that all cells use, from the list of all cells
pub used_is : (values : Cell → List (List ℕ)) (model : Metadata) → used values model ≡ flat_map values (all_cells model)
unfolding used
used_is values model =
    flat_flat values model.tables

-- the GUIDs that are not null
cell_guids : (cell : Cell) → flat_map given (guid_of cell) ≡ guids_of cell
cell_guids (Guid None) = refl
cell_guids (Guid (Some guid)) = refl
cell_guids _ = refl

pub guids_are : (cells : List Cell) → flat_map given (flat_map guid_of cells) ≡ flat_map guids_of cells
guids_are [] = refl
guids_are (cell ∷ cells) =
    flat_map-append given (guid_of cell) (flat_map guid_of cells) ∙ ap (λ list. list ++ flat_map given (flat_map guid_of cells)) (cell_guids cell)
    ∙ ap (λ list. guids_of cell ++ list) (guids_are cells)

-- ---- uses of blobs that are written

pub uses_of : (index_of : CellId → Option ℕ) (model : Metadata) (uses : BlobUses) (blobs : List (List ℕ))
    → AreBlobUses (IsUseIn index_of model) uses blobs → AreBlobUses IsUseOf uses blobs
uses_of index_of model uses blobs are = record {
  kept = are.kept;
  each = zip_weaker (IsUseIn index_of model) IsUseOf (λ found blob is. is.of) uses.kept.items are.kept are.each;
  refer = are.refer;
}

-- cells with one index have one blob
abbrev pub AreShared : (CellId → Option ℕ) → Metadata → Type 0
AreShared index_of model = (first second : CellId) → HasCell model first → HasCell model second → ShareBlob index_of first second → cell_by_id model first ≡ cell_by_id model second

-- ---- one more use of a blob

-- some use of a list that has one
pub some_use : (uses : List BlobUse) (i : ℕ) → i < length uses → BlobUse
some_use [] i below = absurd (omega (arith, below))
some_use (first ∷ uses) i below = first

no_text_beside : (cell : Cell) (blob : List ℕ) → blobs_of cell ≡ blob ∷ [] → IsNoText cell
no_text_beside (Bytes bytes) blob has = record { texts = refl; guids = refl }
no_text_beside (Sig signature) blob has = record { texts = refl; guids = refl }
no_text_beside _ blob has = absurd (cc)

module _ (index_of : CellId → Option ℕ) (model : Metadata) (before after : HeapUses) (cells : List Cell) (id : CellId) (are : AreUsesIn index_of model before cells) where
  abbrev cell : Cell
  cell = cell_by_id model id

  abbrev blobs : List (List ℕ)
  blobs = flat_map blobs_of cells

  -- a use that is kept
  pub added_use : (found : BlobUse) → IsOneUse index_of model id found → after.texts ≡ before.texts → after.guids.items ≡ before.guids.items
      → after.blobs.kept.items ≡ before.blobs.kept.items ++ found ∷ []
      → after.blobs.of_use.items ≡ before.blobs.of_use.items ++ length before.blobs.kept.items ∷ [] → AreUsesIn index_of model after (cells ++ cell ∷ [])
  added_use found one texts guids kept of_use =
      let known = are.blobs.kept in
      let long : length before.blobs.kept.items ≡ length known = sym (AllZip-long (IsUseIn index_of model) before.blobs.kept.items known are.blobs.each) in
      let none = no_text_beside cell one.blob one.has in
      let more : AreBlobUses (IsUseIn index_of model) after.blobs (blobs ++ one.blob ∷ []) = record {
        kept = known ++ one.blob ∷ [];
        each = subst (λ (list : List BlobUse). AllZip (IsUseIn index_of model) list (known ++ one.blob ∷ [])) (sym kept)
            (zip_append (IsUseIn index_of model) before.blobs.kept.items known (found ∷ []) (one.blob ∷ []) are.blobs.each (one.is, tt));
        refer = subst (λ (list : List ℕ). ReferTo (known ++ one.blob ∷ []) list (blobs ++ one.blob ∷ []))
            (sym (of_use ∙ ap (λ (n : ℕ). before.blobs.of_use.items ++ n ∷ []) long))
            (kept_use known before.blobs.of_use.items blobs are.blobs.refer one.blob one.is.of.short);
      } in
      added_blob index_of model before after cells cell are
      (subst (λ list. AreBlobUses (IsUseIn index_of model) after.blobs (blobs ++ list)) (sym one.has) more) none.texts none.guids texts guids

  -- a use at the index of one that is kept
  pub added_known : AreShared index_of model → (known : ℕ) (column : ColumnKind) (given : Option ℕ) → HasCell model id → kind_by_id id ≡ column → given ≡ index_of id
      → known < length before.blobs.kept.items → ((d : BlobUse) → IsAtIndex (get_or before.blobs.kept.items known d) column given)
      → after.texts ≡ before.texts → after.guids.items ≡ before.guids.items → after.blobs.kept.items ≡ before.blobs.kept.items
      → after.blobs.of_use.items ≡ before.blobs.of_use.items ++ known ∷ [] → AreUsesIn index_of model after (cells ++ cell ∷ [])
  added_known shared known column given there kind same below at texts guids kept of_use =
      let list = are.blobs.kept in
      let long : length before.blobs.kept.items ≡ length list = sym (AllZip-long (IsUseIn index_of model) before.blobs.kept.items list are.blobs.each) in
      let d = some_use before.blobs.kept.items known below in
      let here = at d in
      let blob = get_or list known [] in
      let is : IsUseIn index_of model (get_or before.blobs.kept.items known d) blob = zip_at (IsUseIn index_of model) before.blobs.kept.items list known d [] are.blobs.each below in
      let other = is.indexed here.index here.index_is in
      let share : ShareBlob index_of other.id id = record {
        blobs = other.blobs;
        kind = other.kind ∙ here.kind ∙ sym kind;
        index = here.index;
        first_index = other.at;
        second_index = sym same ∙ here.given_is;
      } in
      let has : blobs_of cell ≡ blob ∷ [] = sym (ap blobs_of (shared other.id id other.there there share)) ∙ other.has in
      let none = no_text_beside cell blob has in
      let more : AreBlobUses (IsUseIn index_of model) after.blobs (blobs ++ blob ∷ []) = record {
        kept = list;
        each = subst (λ (uses : List BlobUse). AllZip (IsUseIn index_of model) uses list) (sym kept) are.blobs.each;
        refer = subst (λ (uses : List ℕ). ReferTo list uses (blobs ++ blob ∷ [])) (sym of_use)
            (known_use list before.blobs.of_use.items blobs are.blobs.refer known blob (omega (arith, below, long)) refl);
      } in
      added_blob index_of model before after cells cell are
      (subst (λ uses. AreBlobUses (IsUseIn index_of model) after.blobs (blobs ++ uses)) (sym has) more) none.texts none.guids texts guids

-- ---- before the first cell

pub no_cells_yet : (index_of : CellId → Option ℕ) (model : Metadata) (uses : HeapUses) (cells : List Cell) → AreUsesIn index_of model uses cells
    → AreUsesIn index_of model uses (cells ++ [])
no_cells_yet index_of model uses cells are = subst (AreUsesIn index_of model uses) (sym (append-nil cells)) are

pub no_uses : (index_of : CellId → Option ℕ) (model : Metadata) (uses : HeapUses) → AreTextUses index_of model uses.texts [] → uses.guids.items ≡ [] → uses.blobs.kept.items ≡ []
    → uses.blobs.of_use.items ≡ [] → AreUsesIn index_of model uses []
no_uses index_of model uses texts guids kept of_use = record {
  texts = texts;
  guids = guids;
  blobs = record {
    kept = [];
    each = subst (λ (list : List BlobUse). AllZip (IsUseIn index_of model) list []) (sym kept) tt;
    refer = no_kept [] uses.blobs.of_use.items [] refl of_use refl;
  };
}
