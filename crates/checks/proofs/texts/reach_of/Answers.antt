use Rattle.checks.proofs.Prelude.{◌≡◌, ◌+◌, ◌/◌, slice_index, ap, ◌∙◌, inl, inr, arith, cases_eq, div-add-mod', mod_below, mul-le}
use Rattle.checks.proofs.texts.reach_of.Goals as goal

-- a start after the index is known
pub end_through-requires-clause-order : goal.end_through-requires-clause-order
end_through-requires-clause-order c =
    let part = c.args.part in
    let slot = c.args.index / part in
    let next = c.next_known-next.result in
    let known = c.next_known-next.ensures.known c.if-next-lt-PARTS.true in
    elim (cases_eq next slot) [
      | inl same ↦
          let here : slice_index c.args.starts.now next ≡ slice_index c.args.starts.now slot = ap (slice_index c.args.starts.now) same in
          omega (arith, here, c.requires.later (λ none. known (here ∙ none)))
      | inr other ↦
          let order = mul-le (slot + 1) part next part (omega (arith, c.next_known-next.ensures.first)) (omega arith) in
          omega (arith, order, c.requires.starts.low next known, div-add-mod' c.args.index part, mod_below c.args.index part (omega (arith, c.requires.part)))
    ]
