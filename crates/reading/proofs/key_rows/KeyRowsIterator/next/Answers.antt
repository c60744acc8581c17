use Rattle.reading.proofs.Prelude.{◌≡◌, ◌≢◌, ℕ, ◌+◌, ◌<◌, ◌≤◌, ◌∷◌, rules, ap, length, sym, subst, ◌∙◌, arith, key_at, RowsLeft, rows_with}
use Rattle.reading.proofs.KeyLemmas.{IsNextWith, with_none, with_first}
use Rattle.reading.proofs.key_rows.KeyRowsIterator.next.Goals.{then-self, else-self}
use Rattle.reading.proofs.key_rows.KeyRowsIterator.next.Given.{Over}
use Rattle.reading.proofs.key_rows.KeyRowsIterator.next.Goals as goal

pub returns-then-row-self-clause-steps : goal.returns-then-row-self-clause-steps
returns-then-row-self-clause-steps g c =
    let inside = c.self.inside in
    let within = c.self.invariant.within in
    let end = c.if-row-self.true in
    let none : (r : ℕ) → inside.next ≤ r → r < inside.past → key_at (g.K.KeyNumbers.numbers inside.keys) r ≢ inside.number = elim
    c.if-self.branch [
      | then-self w ↦ λ r low high. absurd (let is = w.row-is in omega arith)
      | else-self w ↦ λ r low high. w.next_with-row.ensures.none r low (let is = w.row-is in omega arith)
    ] in (
      (
        sym (ap (λ (l : RowsLeft). l.rows) c.self.view_is) ∙ with_none (g.K.KeyNumbers.numbers inside.keys) inside.number inside.next
            inside.past none,
        with_none (g.K.KeyNumbers.numbers inside.keys) inside.number inside.past inside.past (λ r low high. absurd (omega arith)),
      ),
      ap (λ (l : RowsLeft). l.reads) c.self.view_is,
    )

step : (g : Over) (c : goal.After-self-2-1 g) → c.args.self.now.rows ≡ c.if-self.row
    ∷ rows_with (g.K.KeyNumbers.numbers c.self.inside.keys) c.self.inside.number (c.if-self.row + 1) c.self.inside.past
step g c =
    let inside = c.self.inside in
    let within = c.self.invariant.within in
    let P : ℕ → Type 0 = λ row. IsNextWith (g.K.KeyNumbers.numbers inside.keys) inside.number inside.next inside.past row in
    let next : P c.if-self.row = elim c.if-self.branch [
      | then-self w ↦ subst P (sym w.row-is) (record {
        from = omega arith;
        to = within;
        none = λ r low high. absurd (omega arith);
        found = λ more. c.self.invariant.run w.if-self.true inside.next (omega arith) more;
      })
      | else-self w ↦ subst P (sym w.row-is) (record {
        from = w.next_with-row.ensures.from;
        to = w.next_with-row.ensures.to;
        none = w.next_with-row.ensures.none;
        found = w.next_with-row.ensures.sound;
      })
    ] in
    let other = c.if-row-self.false in
    let to = next.to in
    let more : c.if-self.row < inside.past = omega arith in
    sym (ap (λ (l : RowsLeft). l.rows) c.self.view_is)
    ∙ with_first (g.K.KeyNumbers.numbers inside.keys) inside.number inside.next inside.past c.if-self.row next.from more next.none
    (next.found more)

pub returns-clause-steps : goal.returns-clause-steps
returns-clause-steps g c = (step g c, ap (λ (l : RowsLeft). l.reads) c.self.view_is)

pub returns-clause-goes : goal.returns-clause-goes
returns-clause-goes g c =
    let long = ap length (step g c) in
    record { on = λ _. (tt, search rules, omega arith); keeps = tt; rests = λ _. tt }
