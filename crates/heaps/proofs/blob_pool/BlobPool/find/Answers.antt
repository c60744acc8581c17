use Rattle.heaps.proofs.Prelude.{◌≡◌, ◌∙◌, List, ℕ, subst, true, false, IfSome, IfNone, blob_from, is_among}
use Rattle.heaps.proofs.BlobLemmas.{found_there, found_new}
use Rattle.heaps.proofs.blob_pool.BlobPool.find.Goals as goal

pub returns-clause-sound : goal.returns-clause-sound
returns-clause-sound c =
    subst (λ (entries : List (List ℕ)). IfSome c.copied.result (λ index. (is_among entries c.args.blob.now ≡ true) × (index ≡ blob_from 1 entries c.args.blob.now))) c.self.view_is
    (found_there c.self.inside.indexes.entries c.args.blob.now c.copied.result c.self.invariant.starts (c.copied.ensures ∙ c.get.ensures.value))

pub returns-clause-none : goal.returns-clause-none
returns-clause-none c =
    subst (λ (entries : List (List ℕ)). IfNone c.copied.result (is_among entries c.args.blob.now ≡ false)) c.self.view_is
    (found_new c.self.inside.indexes.entries c.args.blob.now c.copied.result (c.copied.ensures ∙ c.get.ensures.value))
