use Rattle.cell_numbering.proofs.Prelude.{◌≡◌, ℕ, Err, List, length, map, ap, subst, ◌∙◌, ◌<◌, ◌^◌, rules, slice_index, texts_at, holders, text_heap, text_index, Full}
use Rattle.cell_numbering.proofs.StartLemmas.{same_holders, text_indexes_are}
use Rattle.cell_numbering.proofs.text_uses.plan_in.Goals as goal

pub returns-in_err-pool-clause-full : goal.returns-in_err-pool-clause-full
returns-in_err-pool-clause-full c = λ e.
    let full : c.plan_in.result ≡ Err Full = search rules in
    let heap = c.args.heap.now in
    let same = ap (λ (l : List ℕ). holders (texts_at heap l)) c.deref.ensures.value
    ∙ same_holders (texts_at heap c.in_ok-groups.groups.starts.items) (texts_at heap c.args.starts.now) (c.in_ok-groups.ensures.firsts heap) in
    subst (λ (l : List (List ℕ)). 2 ^ 30 < length (text_heap l)) same (c.plan_in.ensures.full full)

pub returns-clause-entries : goal.returns-clause-entries
returns-clause-entries c =
    let heap = c.args.heap.now in
    c.in_ok-pool.ensures.entries ∙ ap (λ (l : List ℕ). holders (texts_at heap l)) c.deref.ensures.value
    ∙ same_holders (texts_at heap c.in_ok-groups.groups.starts.items) (texts_at heap c.args.starts.now) (c.in_ok-groups.ensures.firsts heap)

pub returns-clause-indexes : goal.returns-clause-indexes
returns-clause-indexes c =
    let heap = c.args.heap.now in
    let starts = c.args.starts.now in
    let groups = c.in_ok-groups.groups.starts.items in
    let are = c.in_ok-groups.ensures in
    let index = text_index (holders (texts_at heap starts)) in
    let plan : c.in_ok-pool.pool.indexes ≡ map index (texts_at heap groups) =
    c.in_ok-pool.ensures.indexes ∙ ap (λ (l : List ℕ). map (text_index (holders (texts_at heap l))) (texts_at heap l)) c.deref.ensures.value
    ∙ ap (λ (l : List (List ℕ)). map (text_index l) (texts_at heap groups)) (same_holders (texts_at heap groups) (texts_at heap starts) (are.firsts heap)) in
    c.in_ok-indexes.ensures ∙ ap (λ (l : List ℕ). map (slice_index l) c.deref-2.result.now) (c.indexes.ensures ∙ plan)
    ∙ ap (map (slice_index (map index (texts_at heap groups)))) c.deref-2.ensures.value ∙ text_indexes_are index heap groups c.in_ok-groups.groups.of_use.items starts are
