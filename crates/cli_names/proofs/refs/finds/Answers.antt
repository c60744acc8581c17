use Rattle.std.proofs.Common.{◌+◌, refl}
use Rattle.cli_names.proofs.refs.finds.Goals as goal

pub returns-then-is_wanted : goal.returns-then-is_wanted
returns-then-is_wanted c = λ model is.
    let found = (c.is_wanted.ensures model is).0 c.if-is_wanted.true in
    ((λ yes. (c.loop-earlier.earlier + 1, found.0, found.1)), (λ some. refl))
