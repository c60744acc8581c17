use Rattle.reading.proofs.Prelude.{ℕ, ◌∷◌, Some, None, sym, ◌∙◌, ap, eqb-true, Decides-eqb}
use Rattle.std.proofs.lemmas.Slice.Eq.{strip_prefix_is}
use Rattle.reading.proofs.TextLemmas.{no_prefix, no_end, other_end, ends, first_is, first_none}
use Rattle.reading.proofs.text_tests.is_before_nul.Goals as goal

pub returns-in_default : goal.returns-in_default
returns-in_default c = λ text after whole plain. (
  λ t. absurd cc,
  λ same. absurd (no_prefix c.args.bytes.now text after c.args.sought.now whole plain
      (strip_prefix_is Decides-eqb c.args.bytes.now c.args.sought.now None c.in_default.ensures.cases) same),
)

pub returns-then-end-eq0 : goal.returns-then-end-eq0
returns-then-end-eq0 c = λ text after whole plain.
    let found = strip_prefix_is Decides-eqb c.args.bytes.now c.args.sought.now (Some c.in-Some.after) c.in-Some.ensures.cases in
    let end = first_is c.in-Some.after.now c.in-Some-first.end.now c.in-Some-first.ensures.value in
    ends c.args.bytes.now text after c.args.sought.now whole plain c.in-Some.after.now found end.0 c.contains.result (end.1
    ∙ ap (λ (n : ℕ). n ∷ end.0) c.if-end-eq0.true) c.contains.ensures.value

pub returns-else-end-eq0 : goal.returns-else-end-eq0
returns-else-end-eq0 c = λ text after whole plain.
    let found = strip_prefix_is Decides-eqb c.args.bytes.now c.args.sought.now (Some c.in-Some.after) c.in-Some.ensures.cases in
    let end = first_is c.in-Some.after.now c.in-Some-first.end.now c.in-Some-first.ensures.value in (
      λ t. absurd (c.if-end-eq0.false (eqb-true c.in-Some-first.end.now 0 t)),
      λ same. absurd (other_end c.args.bytes.now text after c.args.sought.now whole plain c.in-Some.after.now found c.in-Some-first.end.now end.0 end.1
          c.if-end-eq0.false same),
    )

pub returns-in_default-first : goal.returns-in_default-first
returns-in_default-first c = λ text after whole plain.
    let found = strip_prefix_is Decides-eqb c.args.bytes.now c.args.sought.now (Some c.in-Some.after) c.in-Some.ensures.cases in (
      λ t. absurd cc,
      λ same. absurd (no_end c.args.bytes.now text after c.args.sought.now whole plain c.in-Some.after.now found
          (first_none c.in-Some.after.now (sym c.in_default-first.ensures.value)) same),
    )
