use Rattle.reading.proofs.Prelude.{◌≡◌, ◌≢◌, ℕ, zero, suc, ◌+◌, ◌-◌, ◌∷◌, length, rules, refl, ap, sym, ◌∙◌, arith, start_of, down_from}
use Rattle.reading.proofs.starts.StartsIterator.next.Goals as goal

one_down : (value : ℕ → ℕ) (n : ℕ) → n ≢ 0 → down_from value n ≡ value n ∷ down_from value (n - 1)
one_down value zero other = absurd (other refl)
one_down value (suc n) other = let same : n ≡ suc n - 1 = omega arith in ap (λ m. value (suc n) ∷ down_from value m) same

-- what remains starts with the start of this owner
step : (c : goal.After-self-2-1) → c.args.self.now
    ≡ c.start_before-start.result ∷ down_from (λ row. start_of c.self.inside.source.now.source c.self.inside.owner row c.self.inside.column c.self.inside.member)
    (c.self.inside.row - 1)
step c =
    let start : ℕ → ℕ = λ row. start_of c.self.inside.source.now.source c.self.inside.owner row c.self.inside.column c.self.inside.member in
    let left = one_down start c.self.inside.row c.if-self-eq0.false in
    sym c.self.view_is ∙ left ∙ ap (λ (n : ℕ). n ∷ down_from start (c.self.inside.row - 1)) (sym c.start_before-start.ensures)

pub invariant_of-self : goal.invariant_of-self
invariant_of-self c =
    let within = c.self.invariant.within in
    let other = c.if-self-eq0.false in
    let start : ℕ → ℕ = λ row. start_of c.self.inside.source.now.source c.self.inside.owner row c.self.inside.column c.self.inside.member in
    let again : c.self.inside.row - 1 + 1 ≡ c.self.inside.row = omega arith in
    record {
      column = c.self.invariant.column;
      within = omega arith;
      behind = c.start_before-start.ensures ∙ ap start (sym again);
    }

pub returns-clause-steps : goal.returns-clause-steps
returns-clause-steps c = step c

pub returns-clause-goes : goal.returns-clause-goes
returns-clause-goes c =
    let long = ap length (step c) in
    record { on = λ _. (tt, search rules, omega arith); keeps = tt; rests = λ _. tt }
