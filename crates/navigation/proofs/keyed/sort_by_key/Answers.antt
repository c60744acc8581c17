use Rattle.navigation.proofs.Prelude.{◌∙◌, rules, sym, IsNonDecreasingBy-from_sort_by_key, answers_always, key_of}
use Rattle.navigation.proofs.KeyedLemmas.{ties_are}
use Rattle.navigation.proofs.keyed.sort_by_key.Goals as goal

pub returns-clause-sorted : goal.returns-clause-sorted
returns-clause-sorted c = IsNonDecreasingBy-from_sort_by_key key_of _ c.in_ok-sort_by_key.ensures.sorted (λ a r q k. search rules)

pub returns-clause-stable : goal.returns-clause-stable
returns-clause-stable c = λ key.
    let stable = c.in_ok-sort_by_key.ensures.stable key_of (answers_always _ _ _ (λ f a r g h. search rules)) (record { key = key; row = 0 }) in
    ties_are key _ ∙ stable ∙ sym (ties_are key _)
