use Rattle.cli_where.proofs.Prelude.{adds_find, broken_layer, finds_then, whole_layer}
use Rattle.root.specs.Rules.{rules_of_root}
use Rattle.cli_where.proofs.walk.find_in_root.Goals as goal

pub returns-in_default : goal.returns-in_default
returns-in_default c = broken_layer (rules_of_root c.args.bytes.now) c.in_default.field-0 c.args.found.now c.in_default.ensures.first_error

pub returns : goal.returns
returns c =
    whole_layer (rules_of_root c.args.bytes.now) c.in-Ok.ensures.all.0 (finds_then (adds_find c.find_root.ensures) (rw c.in-Ok.ensures.all.1 at c.find_in_streams.ensures))
