use Rattle.writer.proofs.Prelude.{◌++◌, length, ap, ◌∙◌, arith, ∥∥₁_map, ∥∥₁_elim, le_prop, Metadata, IsRootPlan}
use Rattle.root_writer.specs.Root.{root_bytes}
use Rattle.writer.proofs.prepared.make.Goals as goal

pub put_root-requires-clause-room : goal.put_root-requires-clause-room
put_root-requires-clause-room c =
    ∥∥₁_elim c.requires le_prop (λ some.
    omega (
      arith,
      ap length (c.parts_are_canonical.ensures some.0 c.parts_of.result (c.parts_of.ensures.parts some.0 some.2)),
      some.2.len,
      c.in_ok-writer.ensures.room,
    ))

pub invariant_of-result : goal.invariant_of-result
invariant_of-result c =
    let parts = c.parts_of.result in
    let whole = λ (model : Metadata) (plan : IsRootPlan model c.args.plan.now).
    c.into_bytes.ensures ∙ c.put_root.ensures.bytes ∙ ap (λ prefix. prefix ++ root_bytes parts) c.in_ok-writer.ensures.bytes
    ∙ c.parts_are_canonical.ensures model parts (c.parts_of.ensures.parts model plan) in
    record {
      root = ∥∥₁_map c.requires (λ some. (some.0, some.1, whole some.0 some.2));
      small = ∥∥₁_elim c.requires le_prop (λ some. omega (arith, ap length (whole some.0 some.2), some.2.len, some.2.limit));
    }

pub returns : goal.returns
returns c model plan =
    let parts = c.parts_of.result in
    c.into_bytes.ensures ∙ c.put_root.ensures.bytes ∙ ap (λ prefix. prefix ++ root_bytes parts) c.in_ok-writer.ensures.bytes
    ∙ c.parts_are_canonical.ensures model parts (c.parts_of.ensures.parts model plan)
