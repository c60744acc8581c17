use Rattle.std.proofs.Common.{refl, sym, ap, ◌∙◌, arith, not}
use Rattle.std.proofs.lemmas.Bool.{not-false}
use Rattle.std.proofs.lemmas.Bool.Decides.{Decides-eqb}
use Rattle.std.proofs.lemmas.Slice.Eq.{slice_eq-Decides}
use Rattle.heap_entries.proofs.PaddingLemmas.{padded_alike, parts_alike}
use Rattle.heap_entries.proofs.padding.has_more_zeros.Goals as goal

pub returns-then-div_ceil : goal.returns-then-div_ceil
returns-then-div_ceil c = (
  (λ yes. cc),
  (λ same. absurd (omega (arith, (parts_alike c.args.longer.now c.args.shorter.now c.requires same).0, c.div_ceil.ensures, c.div_ceil-2.ensures, c.if-div_ceil.true))),
)

pub returns-then-ne : goal.returns-then-ne
returns-then-ne c = (
  (λ yes. cc),
  (λ same.
      let begins = c.split_at.ensures.front ∙ (parts_alike c.args.longer.now c.args.shorter.now c.requires same).1 in
      let equal = (slice_eq-Decides Decides-eqb c.split_at.result.0.now c.args.shorter.now _ refl).1 begins in
      sym (ap not equal) ∙ sym c.ne.ensures ∙ c.if-ne.true),
)

pub returns : goal.returns
returns c = (
  (λ yes.
      let begins = (slice_eq-Decides Decides-eqb c.split_at.result.0.now c.args.shorter.now _ refl).0 (not-false _ (sym c.ne.ensures ∙ c.if-ne.false)) in
      padded_alike c.args.longer.now c.args.shorter.now c.requires (omega (arith, c.if-div_ceil.false, c.div_ceil.ensures, c.div_ceil-2.ensures))
      (sym c.split_at.ensures.front ∙ begins) (rw c.split_at.ensures.back at (c.are_zeros.ensures.0 yes))),
  (λ same. c.are_zeros.ensures.1 (rw (← c.split_at.ensures.back) at (parts_alike c.args.longer.now c.args.shorter.now c.requires same).2)),
)
