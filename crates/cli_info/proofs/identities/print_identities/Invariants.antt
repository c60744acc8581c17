use Rattle.cli_info.proofs.Prelude.{map, range_with_len, Metadata, IsModel, Prints, identity_line}
use Rattle.cli_info.proofs.identities.print_identities.Given as goal

abbrev pub invariant-loop-earlier : goal.invariant-loop-earlier
invariant-loop-earlier g l = (model : Metadata) → IsModel l.view model → Prints l.initial.out l.out (map (identity_line l.kind model) (range_with_len 1 l.earlier))
