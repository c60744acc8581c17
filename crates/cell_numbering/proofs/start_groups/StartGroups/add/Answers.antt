use Rattle.cell_numbering.proofs.Prelude.{◌≡◌, ℕ, ◌<◌, List, [], ◌∷◌, ◌++◌, length, sym, ap, subst, ◌∙◌, arith, slice_index}
use Rattle.cell_numbering.specs.StartGroups.{AreStartGroups}
use Rattle.cell_numbering.proofs.StartLemmas.{known_start, new_start}
use Rattle.cell_numbering.proofs.start_groups.StartGroups.add.Goals as goal

pub returns-in_ok-push-in-Some : goal.returns-in_ok-push-in-Some
returns-in_ok-push-in-Some c = λ starts are.
    let groups = c.args.self.now.starts.items in
    let start = c.args.start in
    let group = c.in-Some.group in
    let found = c.in-Some.ensures in
    let low : group < length groups = omega (arith, found.0, ap length c.deref.ensures.value) in
    let is : slice_index groups group ≡ start = ap (λ (l : List ℕ). slice_index l group) (sym c.deref.ensures.value) ∙ found.1 in
    subst (λ (u : List ℕ). AreStartGroups groups u (starts ++ start ∷ [])) (sym c.in_ok-push-in-Some.ensures.items)
    (known_start groups c.args.self.now.of_use.items starts are group start low is)

pub returns-in_ok-push-in-None-2 : goal.returns-in_ok-push-in-None-2
returns-in_ok-push-in-None-2 c = λ starts are.
    let groups = c.args.self.now.starts.items in
    let of_use = c.args.self.now.of_use.items in
    let start = c.args.start in
    let count : c.len-group.result ≡ length groups = omega (arith, c.len-group.ensures, c.args.self.now.starts.ok) in
    subst (λ (g : List ℕ). AreStartGroups g c.push-in-None-2.new.self.items (starts ++ start ∷ [])) (sym c.in_ok-push-in-None.ensures.items)
    (subst (λ (u : List ℕ). AreStartGroups (groups ++ start ∷ []) u (starts ++ start ∷ [])) (sym (c.in_ok-push-in-None-2.ensures.items ∙ ap (λ (g : ℕ). of_use ++ g ∷ []) count))
    (new_start groups of_use starts are start))
