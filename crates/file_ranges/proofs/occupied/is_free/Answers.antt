use Rattle.file_ranges.proofs.Prelude.{◌≡◌, ℕ, List, rules, subst, sym, ◌∙◌, false≢true, AreBodiesApart}
use Rattle.file_ranges.proofs.Lowest.{one_lowest}
use Rattle.file_ranges.proofs.occupied.is_free.Goals as goal

pub returns : goal.returns
returns c = (
  λ yes. record {
    lowest = c.in-Some.lowest;
    is_lowest = search rules;
    cli_header = search rules;
    named = c.are_named_apart.ensures.0 (search rules);
    directories = search rules;
    sections = c.are_sections_apart.ensures.0 (search rules);
    bodies = search rules;
    field_data = c.is_data_apart.ensures.0 yes;
  },
  λ free. c.is_data_apart.ensures.1 free.field_data,
)

pub returns-in_default : goal.returns-in_default
returns-in_default c = (λ yes. absurd (false≢true yes), λ free. absurd (c.in_default.ensures.none free.lowest free.is_lowest))

pub returns-then-not-are_named_apart : goal.returns-then-not-are_named_apart
returns-then-not-are_named_apart c = (
  λ yes. absurd (false≢true yes),
  λ free. absurd (false≢true (sym c.if-not-are_named_apart.true ∙ c.are_named_apart.ensures.1 free.named)),
)

pub returns-then-not-are_bodies_apart : goal.returns-then-not-are_bodies_apart
returns-then-not-are_bodies_apart c = (
  λ yes. absurd (false≢true yes),
  λ free.
      let header = c.args.header.now in
      let file = c.args.headers.now in
      let source = c.args.source.now.source in
      let same : free.lowest ≡ c.in-Some.lowest = one_lowest header file free.lowest c.in-Some.lowest free.is_lowest c.in-Some.ensures.sound in
      let bodies : AreBodiesApart header c.file-file.result.now source c.in-Some.lowest =
      subst (λ (f : List ℕ). AreBodiesApart header f source c.in-Some.lowest) (sym c.file-file.ensures.bytes)
      (subst (λ (n : ℕ). AreBodiesApart header file source n) same free.bodies) in
      absurd (false≢true (sym c.if-not-are_bodies_apart.true ∙ c.are_bodies_apart.ensures.1 bodies)),
)
