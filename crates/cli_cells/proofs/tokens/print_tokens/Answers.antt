use Rattle.cli_cells.proofs.Prelude.{◌+◌, ◌++◌, ◌∷◌, ◌∙◌, [], ℕ, List, ap, drop, get_or, refl, sym, take, drop_more, take-append-drop, take_all, take_more, All-more, All-nil, IsNamed, Metadata, Part, AreTokenLines, IsTokenLine}
use Rattle.cli_cells.proofs.tokens.print_tokens.Goals as goal

-- the lines of some numbers and of one more
lines_appended : (model : Metadata) (numbers : List ℕ) (number : ℕ) (lines : List (List Part)) (parts : List Part) → AreTokenLines model numbers lines
    → IsTokenLine model number parts → AreTokenLines model (numbers ++ number ∷ []) (lines ++ parts ∷ [])
lines_appended model [] number lines parts are is = (parts, [], is, refl, ap (λ xs. xs ++ parts ∷ []) are)
lines_appended model (n ∷ ns) number lines parts are is =
    (are.0, are.1 ++ parts ∷ [], are.2, lines_appended model ns number are.1 parts are.3 is, ap (λ xs. xs ++ parts ∷ []) are.4)

pub loop-number-init : goal.loop-number-init
loop-number-init g c = record { there = All-nil _; printed = λ model is. ([], refl, c.lines_follow.ensures.nothing _) }

pub loop-number-preserved : goal.loop-number-preserved
loop-number-preserved g c =
    let numbers = c.args.numbers.now in
    let index = c.loop-number.number-index in
    let number = get_or numbers index 0 in
    let lt = c.loop-number-test.true in record {
      there = All-more (IsNamed c.args.view.now) numbers index 0 lt c.loop-number.invariant.there c.in-Some.ensures.named;
      printed = λ model is.
          let before = c.loop-number.invariant.printed model is in
          let line = c.in-Some.ensures.line model is in
          let lines = before.0 ++ line.0 ∷ [] in (
            lines,
            rw (take_more numbers index 0 lt) (lines_appended model (take index numbers) number before.0 line.0 before.1 line.1),
            c.lines_follow.ensures.more _ _ _ _ _ before.2 line.2,
          );
    }

pub returns-in-None-clause-stopped : goal.returns-in-None-clause-stopped
returns-in-None-clause-stopped g c =
    let numbers = c.args.numbers.now in
    let index = c.loop-number.number-index in (
      take index numbers,
      drop (index + 1) numbers,
      get_or numbers index 0,
      sym (take-append-drop index numbers) ∙ ap (λ (ns : List ℕ). take index numbers ++ ns) (drop_more numbers index 0 c.loop-number-test.true),
      c.loop-number.invariant.there,
      c.in-None.ensures.none.0,
      rw c.in-None.ensures.none.1 c.loop-number.invariant.printed,
    )

pub returns-clause-there : goal.returns-clause-there
returns-clause-there g c = rw (take_all c.loop-number.number-index c.args.numbers.now c.loop-number-test.false) at c.loop-number.invariant.there

pub returns-clause-printed : goal.returns-clause-printed
returns-clause-printed g c = rw (take_all c.loop-number.number-index c.args.numbers.now c.loop-number-test.false) at c.loop-number.invariant.printed
