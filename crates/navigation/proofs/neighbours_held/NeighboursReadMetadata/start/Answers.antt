use Rattle.navigation.proofs.Prelude.{◌≡◌, ◌∙◌, ℕ, ◌+◌, ◌-◌, ◌<◌, length, slice_index, ap, subst, sym, arith, Start, HasRow, owner_of, row_count}
use Rattle.navigation.proofs.OwnerLemmas.{is_start, start_of}
use Rattle.navigation.proofs.neighbours_held.NeighboursReadMetadata.start.Goals as goal

pub returns-in-Some : goal.returns-in-Some
unfolding row_count
returns-in-Some c = λ model is.
    let list = c.args.list in
    let row = c.args.row in
    let starts = c.known.result.now in
    let count = c.models_are_read.ensures.count c.args.self.now.view.now model is (owner_of list) in
    let there : HasRow model (owner_of list) row = (c.requires.first, omega (arith, count, c.requires.last)) in
    let found = c.in-Some.ensures.lookup in
    let within : row - 1 < length starts = found.3.0 in
    let value : slice_index starts (row - 1) ≡ c.in-Some.start.now = sym (found.3.1 0) in
    let same : row - 1 + 1 ≡ row = omega (arith, c.requires.first) in
    let P : ℕ → Type 0 = λ r. start_of model list r ≡ slice_index starts (row - 1) in
    is_start model (c.models_of_roots_are_valid.ensures c.args.self.now.view.now model is) list row there ∙ ap (λ s. Start s) (subst P same (c.known.ensures model is (row - 1) within) ∙ value)
