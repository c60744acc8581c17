use Rattle.writer.proofs.Prelude.{ap, sym, ◌∙◌, arith, length, ∥∥₁_elim, le_prop}
use Rattle.writer.proofs.LengthLemmas.{padding_adds}
use Rattle.writer.proofs.outline.outline_of.Goals as goal

pub invariant_of-result : goal.invariant_of-result
invariant_of-result g c =
    let has = c.holds_one.ensures.shown in
    let valid = c.holds_one.ensures.valid in
    record {
      short = ∥∥₁_elim has le_prop (λ some. omega (arith, ap length (c.version.ensures some.0 some.1), (valid some.0 some.1).version.short));
      small = ∥∥₁_elim has le_prop (λ some.
          omega (arith, ap length (c.user.ensures some.0 some.1), padding_adds c.user.result.now, (valid some.0 some.1).user.small));
      few = λ table. ∥∥₁_elim has le_prop (λ some.
          omega (arith, c.counts.ensures table, c.holds_one.ensures.rows some.0 some.1 table, (valid some.0 some.1).few table));
    }

pub returns : goal.returns
returns g c model is = record {
  version = c.version.ensures model is;
  user = c.user.ensures model is;
  counts = λ table. c.counts.ensures table ∙ sym (c.holds_one.ensures.rows model is table);
  sorted = c.sorted.ensures model is;
}
