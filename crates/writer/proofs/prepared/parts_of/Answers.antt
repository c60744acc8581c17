use Rattle.writer.proofs.Prelude.{length, ap, ◌∙◌, arith, ∥∥₁_elim, le_prop, text_heap, planned_tables}
use native.Mathlib.Nat.{ℕ_set}
use Rattle.writer.proofs.PlannedRoots.{short, low}
use Rattle.writer.proofs.prepared.parts_of.Goals as goal

pub returns-clause-can : goal.returns-clause-can
returns-clause-can c =
    let plan = c.args.plan.now in
    let low = ∥∥₁_elim c.requires le_prop (λ some. low plan some.0 some.2) in
    record {
      version = ∥∥₁_elim c.requires le_prop (λ some. short plan some.0 some.2);
      low = omega (arith, low);
      many = ap length c.numbers.ensures ∙ ∥∥₁_elim c.requires (ℕ_set _ _) (λ some. some.2.many);
    }

pub returns-clause-parts : goal.returns-clause-parts
returns-clause-parts c model plan = record {
  version = plan.version;
  sizes = plan.sizes;
  tables = ap (planned_tables c.args.plan.now.tables) c.numbers.ensures ∙ plan.table_stream;
  strings = c.bytes.ensures.heap ∙ ap text_heap plan.texts;
  user_strings = plan.user;
  guids = c.guids.ensures.heap ∙ plan.numbering.guids;
  blobs = c.blobs.ensures.heap ∙ plan.numbering.blobs;
}
