use Rattle.cell_numbering.proofs.Prelude.{◌≡◌, ◌↔◌, ◌^◌, ◌<◌, ℕ, List, Err, map, length, ap, subst, ◌∙◌, IfOk, Full, blob_heap, blob_index, distinct, bytes_of, all_bytes}
use Rattle.cell_numbering.specs.declared.blob_bytes.BlobBytes.{BlobBytes}
use Rattle.cell_numbering.proofs.pools.written_plan.Goals as goal

sorted : (c : goal.After-drop-bytes-2) → c.in_ok-sort_from.field-0 ≡ all_bytes c.args.written.bytes.items c.args.written.firsts.items
sorted c =
    c.in_ok-sort_from.ensures ∙ ap bytes_of c.deref-3.ensures.value ∙ c.in_ok-blobs.ensures
    ∙ ap (λ (b : List BlobBytes). all_bytes b c.deref-2.result.now) c.deref.ensures.value ∙ ap (all_bytes c.args.written.bytes.items) c.deref-2.ensures.value

pub returns-clause-heap : goal.returns-clause-heap
returns-clause-heap c = subst (λ (blobs : List (List ℕ)). IfOk c.lay_out-2.result (λ plan. plan.heap ≡ blob_heap (distinct blobs))) (sorted c) c.lay_out-2.ensures.heap

pub returns-clause-indexes : goal.returns-clause-indexes
returns-clause-indexes c = subst (λ (blobs : List (List ℕ)). IfOk c.lay_out-2.result (λ plan. plan.indexes ≡ map (blob_index (distinct blobs)) blobs)) (sorted c) c.lay_out-2.ensures.indexes

pub returns-clause-full : goal.returns-clause-full
returns-clause-full c = λ full. (subst (λ (blobs : List (List ℕ)). (c.lay_out-2.result ≡ Err Full) ↔ (2 ^ 30 < length (blob_heap (distinct blobs)))) (sorted c) c.lay_out-2.ensures.full).0 full
