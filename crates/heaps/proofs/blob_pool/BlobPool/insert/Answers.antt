use Rattle.heaps.proofs.Prelude.{◌≡◌, ◌++◌, ◌∷◌, [], List, ℕ, Vec, Global, Result, Ok, Err, IsOk, OnOk, None, nat_eq, false, length, sym, ap, subst, ◌∙◌, true≢false, arith, length-append, pointwise, values_of, lookup, blob_heap, counted, starts_from, is_among, begun}
use Rattle.indexmap.proofs.CallerLemmas.{insert_entry-new}
use Rattle.heaps.proofs.BlobLemmas.{names_of, lookup_new, blob_heap-push, names_of-push, starts-push}
use Rattle.heaps.proofs.blob_pool.BlobPool.insert.Goals as goal

of_ok : {X E : Type 0} (r : Result X E) (P : Type 0) → IsOk r → OnOk r P → P
of_ok (Ok x) P is holds = holds
of_ok (Err e) P is holds = absurd (true≢false (sym is))

-- the entries of the map afterwards: the blob's entry is last
inserted : (c : goal.Joined-insert) → c.insert.new.self.entries ≡ c.self.inside.indexes.entries ++ (c.in_ok-key.key, c.args.start) ∷ []
inserted c =
    let old = c.self.inside.indexes.entries in
    let kept : c.reserve.new.self.entries ≡ old = c.in_ok-reserve.ensures.entries in
    let new : is_among (names_of old) c.args.blob.now ≡ false = subst (λ (l : List (List ℕ)). is_among l c.args.blob.now ≡ false) (sym c.self.view_is) c.requires.new in
    let none : lookup (λ (key : Vec ℕ Global). pointwise nat_eq c.args.blob.now key.items) old ≡ None = (lookup_new old c.args.blob.now).1 new in
    let absent : lookup (λ (key : Vec ℕ Global). pointwise nat_eq c.in_ok-key.key.items key.items) c.reserve.new.self.entries ≡ None =
    ap (lookup (λ (key : Vec ℕ Global). pointwise nat_eq c.in_ok-key.key.items key.items)) kept
    ∙ ap (λ (l : List ℕ). lookup (λ (key : Vec ℕ Global). pointwise nat_eq l key.items) old) c.in_ok-key.ensures.items ∙ none in
    of_ok c.insert.result _ (c.insert.ensures.succeeds (omega (arith, c.in_ok-reserve.ensures.ok))) c.insert.ensures.entries
    ∙ insert_entry-new _ c.reserve.new.self c.in_ok-key.key c.args.start absent
    ∙ ap (λ (l : List (Vec ℕ Global × ℕ)). l ++ (c.in_ok-key.key, c.args.start) ∷ []) kept

pub invariant_of-self-2 : goal.invariant_of-self-2
invariant_of-self-2 c =
    let old = c.self.inside.indexes.entries in
    let blob = c.args.blob.now in
    let heap : c.append_blob.new.heap.items ≡ begun c.self.inside.heap.items ++ counted blob = c.in_ok-append_blob.ensures.ok in
    let begins : begun c.self.inside.heap.items ≡ begun (blob_heap (names_of old)) = ap begun c.self.invariant.whole in
    let start : c.args.start ≡ length (begun (blob_heap (names_of old))) = c.requires.start ∙ ap (λ (l : List (List ℕ)). length (begun (blob_heap l))) (sym c.self.view_is) in
    let names : names_of c.insert.new.self.entries ≡ names_of old ++ blob ∷ [] = ap names_of (inserted c) ∙ names_of-push old c.in_ok-key.key c.args.start blob c.in_ok-key.ensures.items in
    record {
      whole = heap ∙ ap (λ (l : List ℕ). l ++ counted blob) begins ∙ sym (blob_heap-push (names_of old) blob) ∙ ap blob_heap (sym names);
      fits = omega (arith, ap length heap, length-append (begun c.self.inside.heap.items) (counted blob), ap length begins, start, c.requires.fits);
      starts = ap values_of (inserted c) ∙ starts-push old c.in_ok-key.key c.args.start blob c.in_ok-key.ensures.items start c.self.invariant.starts
          ∙ ap (λ (l : List (Vec ℕ Global × ℕ)). starts_from 1 (names_of l)) (sym (inserted c));
    }

pub returns-clause-ok : goal.returns-clause-ok
returns-clause-ok c =
    ap names_of (inserted c) ∙ names_of-push c.self.inside.indexes.entries c.in_ok-key.key c.args.start c.args.blob.now c.in_ok-key.ensures.items
    ∙ ap (λ (l : List (List ℕ)). l ++ c.args.blob.now ∷ []) c.self.view_is
