use Rattle.cli_where.proofs.Prelude.{adds_find, broken_layer, finds_then, whole_layer}
use Rattle.cli_header.specs.Rules.{rules_of_cli_header}
use Rattle.cli_where.proofs.walk.find_in_image.Goals as goal

pub returns-in_default : goal.returns-in_default
returns-in_default c = broken_layer (rules_of_cli_header c.args.pe.now) c.in_default.field-0 c.args.found.now c.in_default.ensures.first_error

pub returns : goal.returns
returns c =
    let said = c.in-Ok.ensures.all.1 in
    whole_layer (rules_of_cli_header c.args.pe.now) c.in-Ok.ensures.all.0
    (finds_then (adds_find (rw said at c.find_cli.ensures)) (rw (c.root_of-root.ensures, c.bytes.ensures, said) at c.find_in_root.ensures))
