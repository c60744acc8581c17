use Rattle.cell_numbering.proofs.Prelude.{◌≡◌, ◌≢◌, ◌<◌, ◌^◌, ℕ, List, [], All, Err, inl, inr, length, get_or, map, sym, ap, subst, ◌∙◌, rules, flat_map, not_there, All-get_or, All-from_get_or, HasNoNul, blob_heap, blob_index, distinct, given, guid_heap, guid_index, holders, text_heap, text_index, Full, blobs_of, guids_of, texts_of, used, BlobUse, AreIndexes, IsUseIn, all_cells, guid_of, AllZip}
use Rattle.cell_numbering.specs.declared.numbers_so_far.Indexes.{Indexes}
use Rattle.cell_numbering.specs.EqualUses.{AreEarlierUses}
use Rattle.cell_numbering.specs.TextUses.{used_texts}
use Rattle.cell_numbering.proofs.UseLemmas.{guids_are, used_is, uses_of}
use Rattle.cell_numbering.proofs.pools.pools_of.Goals as goal

pub plan-requires : goal.plan-requires
plan-requires g c =
    let texts = used_texts c.in_ok-uses.uses.texts in
    All-from_get_or HasNoNul texts [] (λ k below.
    All-from_get_or (λ (byte : ℕ). byte ≢ 0) (get_or texts k []) 0 (λ j within zero.
    not_there c.holds_one.ensures.shown (λ some.
    let all : All HasNoNul texts =
    subst (λ (list : List (List ℕ)). All HasNoNul list) (used_is texts_of some.0 ∙ sym (c.in_ok-uses.ensures some.0 some.1).texts.texts)
    (c.cells_can_be_numbered.ensures.texts some.0 (c.holds_one.ensures.valid some.0 some.1)) in
    All-get_or (λ (byte : ℕ). byte ≢ 0) (get_or texts k []) j 0 within (All-get_or HasNoNul texts k [] below all) zero)))

pub returns-in_err-texts-clause-full : goal.returns-in_err-texts-clause-full
returns-in_err-texts-clause-full g c = λ model is e.
    let full : c.plan.result ≡ Err Full = search rules in
    let same = (c.in_ok-uses.ensures model is).texts.texts ∙ sym (used_is texts_of model) in
    inl (subst (λ (l : List (List ℕ)). 2 ^ 30 < length (text_heap (holders l))) same (c.plan.ensures.full full))

pub returns-in_err-guids-clause-full : goal.returns-in_err-guids-clause-full
returns-in_err-guids-clause-full g c = λ model is e.
    let full : c.guid_plan.result ≡ Err Full = search rules in
    let same = ap (flat_map given) (c.deref.ensures.value ∙ (c.in_ok-uses.ensures model is).guids) ∙ guids_are (all_cells model) ∙ sym (used_is guids_of model) in
    inr (inr (subst (λ (l : List (List ℕ)). 2 ^ 30 < length (guid_heap (distinct l))) same (c.guid_plan.ensures.full full)))

pub equal_uses-requires : goal.equal_uses-requires
equal_uses-requires g c = λ none. not_there c.holds_one.ensures.shown (λ some.
    let index_of = g.S.ReadCells.heap_index c.args.source.now in
    let uses = (c.in_ok-uses.ensures some.0 some.1).blobs in
    none (some.0, some.1, (uses.kept, subst (λ (list : List BlobUse). AllZip (IsUseIn index_of some.0) list uses.kept) (sym c.deref-2.ensures.value) uses.each)))

pub blob_plan-requires-clause-earlier : goal.blob_plan-requires-clause-earlier
blob_plan-requires-clause-earlier g c =
    subst (AreEarlierUses c.in_ok-uses.uses.blobs.kept.items) (sym c.deref-3.ensures.value)
    (subst (λ (list : List BlobUse). AreEarlierUses list c.in_ok-earlier.earlier.items) c.deref-2.ensures.value c.in_ok-earlier.ensures.earlier)

pub blob_plan-requires-clause-uses : goal.blob_plan-requires-clause-uses
blob_plan-requires-clause-uses g c = λ none. not_there c.holds_one.ensures.shown (λ some.
    let blobs = flat_map blobs_of (all_cells some.0) in
    none (
      blobs,
      uses_of (g.S.ReadCells.heap_index c.args.source.now) some.0 c.in_ok-uses.uses.blobs blobs (c.in_ok-uses.ensures some.0 some.1).blobs,
    ))

pub returns-in_err-blobs-clause-full : goal.returns-in_err-blobs-clause-full
returns-in_err-blobs-clause-full g c = λ model is e.
    let full : c.blob_plan.result ≡ Err Full = search rules in
    let blobs = flat_map blobs_of (all_cells model) in
    let uses = uses_of (g.S.ReadCells.heap_index c.args.source.now) model c.in_ok-uses.uses.blobs blobs (c.in_ok-uses.ensures model is).blobs in
    inr (inl (subst (λ (l : List (List ℕ)). 2 ^ 30 < length (blob_heap (distinct l))) (sym (used_is blobs_of model)) (c.blob_plan.ensures.full blobs uses full)))

pub returns-clause-pools : goal.returns-clause-pools
returns-clause-pools g c = λ model is.
    let texts = flat_map texts_of (all_cells model) in
    let guids = flat_map guid_of (all_cells model) in
    let blobs = flat_map blobs_of (all_cells model) in
    let in_uses = c.in_ok-uses.ensures model is in
    let uses = uses_of (g.S.ReadCells.heap_index c.args.source.now) model c.in_ok-uses.uses.blobs blobs in_uses.blobs in
    let texts_are : used_texts c.in_ok-uses.uses.texts ≡ texts = in_uses.texts.texts in
    let guids_given : flat_map given guids ≡ used guids_of model = guids_are (all_cells model) ∙ sym (used_is guids_of model) in
    let guids_is = c.deref.ensures.value ∙ in_uses.guids in
    let indexes : Indexes = record { texts = c.deref-4.result; guids = c.indexes.result; blobs = c.deref-5.result } in
    let are : AreIndexes model indexes = record {
      texts = c.deref-4.ensures.value ∙ c.in_ok-texts.ensures.indexes ∙ ap (λ (l : List (List ℕ)). map (text_index (holders l)) l) texts_are
          ∙ ap (λ (l : List (List ℕ)). map (text_index (holders l)) texts) (sym (used_is texts_of model));
      guids = c.indexes.ensures ∙ c.in_ok-guids.ensures.indexes ∙ ap (λ l. map (guid_index (distinct (flat_map given l))) l) guids_is
          ∙ ap (λ (l : List (List ℕ)). map (guid_index (distinct l)) guids) guids_given;
      blobs = c.deref-5.ensures.value ∙ c.in_ok-blobs.ensures.indexes blobs uses ∙ ap (λ (l : List (List ℕ)). map (blob_index (distinct l)) blobs) (sym (used_is blobs_of model));
    } in (
      c.in_ok-texts.ensures.entries ∙ ap holders (texts_are ∙ sym (used_is texts_of model)),
      record {
        blobs = c.new.ensures.blobs ∙ c.in_ok-blobs.ensures.heap blobs uses ∙ ap (λ (l : List (List ℕ)). blob_heap (distinct l)) (sym (used_is blobs_of model));
        guids = c.new.ensures.guids ∙ c.in_ok-guids.ensures.heap ∙ ap (λ (l : List (List ℕ)). guid_heap (distinct l)) (ap (flat_map given) guids_is ∙ guids_given);
        numbers = c.new.ensures.numbers ∙ c.in_ok-numbers.ensures model is are;
      },
    )
