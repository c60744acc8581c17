use Rattle.c_values.proofs.Prelude.{not_there}
use Rattle.c_values.proofs.located.tables_of.Goals as goal

pub unreachable-requires : goal.unreachable-requires
unreachable-requires c = not_there c.requires (λ some. c.in_default.ensures.complete some.0.version some.1.headers some.1.small some.1.is_root)
