use Rattle.std.proofs.Common.{inr}
use Rattle.std.proofs.Math.Logic.{∥∥₁_map}
use Rattle.cli_roots.proofs.rewrite.canonical_root.Goals as goal

pub returns-in-Ok-clause-sound : goal.returns-in-Ok-clause-sound
returns-in-Ok-clause-sound c =
    let it = c.in_ok-view in ∥∥₁_map it.ensures.model (λ some. (it.view, some.0, it.ensures.root, some.1, c.in-Ok.ensures.root some.0 some.1))

pub returns-in-Err-TooLarge-clause-first_error : goal.returns-in-Err-TooLarge-clause-first_error
returns-in-Err-TooLarge-clause-first_error c =
    let it = c.in_ok-view in
    inr (
      c.new.ensures,
      ∥∥₁_map it.ensures.model (λ some. (it.view, some.0, it.ensures.root, some.1, rw c.in-Err-TooLarge.field-0-is at (c.in-Err-TooLarge.ensures.refused some.0 some.1))),
    )
