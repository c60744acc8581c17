use Rattle.cell_numbering.proofs.Prelude.{◌≡◌, ◌^◌, ◌<◌, ℕ, List, All, Err, map, length, ap, sym, subst, ◌∙◌, arith, lt_of_not-le, err_from_is_err_and, slice_index, AllZip, Full, blob_heap, blob_index, distinct, BlobUse, IsUseOf}
use Rattle.cell_numbering.specs.EqualUses.{AreEarlierUses}
use Rattle.cell_numbering.proofs.BlobLemmas.{indexes_are}
use Rattle.cell_numbering.proofs.pools.blob_plan.Goals as goal

pub written_blobs-requires-clause-uses : goal.written_blobs-requires-clause-uses
written_blobs-requires-clause-uses c = λ none. c.requires.uses (λ some.
    none (some.1.kept, subst (λ (uses : List BlobUse). AllZip IsUseOf uses some.1.kept) (sym c.deref.ensures.value) some.1.each))

pub written_blobs-requires-clause-earlier : goal.written_blobs-requires-clause-earlier
written_blobs-requires-clause-earlier c = subst (λ (uses : List BlobUse). AreEarlierUses uses c.args.earlier.now) (sym c.deref.ensures.value) c.requires.earlier

pub written_plan-requires-clause-short : goal.written_plan-requires-clause-short
written_plan-requires-clause-short c = λ k d h. lt_of_not-le (λ long. c.requires.uses (λ some.
    let all = some.1 in
    let written = c.in_ok-written.ensures.blobs all.kept (subst (λ (uses : List BlobUse). AllZip IsUseOf uses all.kept) (sym c.deref.ensures.value) all.each) in
    let short = subst (λ (list : List (List ℕ)). All (λ (blob : List ℕ). length blob < 2 ^ 29) list) (sym written) all.refer.short in
    absurd (omega (arith, long, short k d h))))

pub returns-in_err-plan-clause-full : goal.returns-in_err-plan-clause-full
returns-in_err-plan-clause-full c = λ blobs all.
    let written = c.in_ok-written.ensures.blobs all.kept (subst (λ (uses : List BlobUse). AllZip IsUseOf uses all.kept) (sym c.deref.ensures.value) all.each) in
    let p = err_from_is_err_and c.from_residual-in_err-plan.result c.from_residual-in_err-plan.ensures.1 in
    rw (p.1, p.2) (λ full.
    let same : c.in_err-plan.field-0.0 ≡ Full = cc in
    subst (λ (l : List (List ℕ)). 2 ^ 30 < length (blob_heap l)) (ap distinct written ∙ all.refer.firsts) (c.in_err-plan.ensures.full (ap Err same)))

pub returns-clause-heap : goal.returns-clause-heap
returns-clause-heap c = λ blobs all.
    let written = c.in_ok-written.ensures.blobs all.kept (subst (λ (uses : List BlobUse). AllZip IsUseOf uses all.kept) (sym c.deref.ensures.value) all.each) in
    c.in_ok-plan.ensures.heap ∙ ap blob_heap (ap distinct written ∙ all.refer.firsts)

pub returns-clause-indexes : goal.returns-clause-indexes
returns-clause-indexes c = λ blobs all.
    let index = blob_index (distinct blobs) in
    let written = c.in_ok-written.ensures.blobs all.kept (subst (λ (uses : List BlobUse). AllZip IsUseOf uses all.kept) (sym c.deref.ensures.value) all.each) in
    let plan : c.in_ok-plan.plan.indexes ≡ map index all.kept =
    c.in_ok-plan.ensures.indexes ∙ ap (λ (l : List (List ℕ)). map (blob_index (distinct l)) l) written
    ∙ ap (λ (l : List (List ℕ)). map (blob_index l) all.kept) all.refer.firsts in
    c.in_ok-indexes.ensures ∙ ap (λ (l : List ℕ). map (slice_index l) c.deref-2.result.now) (c.indexes.ensures ∙ plan)
    ∙ ap (map (slice_index (map index all.kept))) c.deref-2.ensures.value ∙ indexes_are index all.kept c.args.uses.now.of_use.items blobs all.refer
