use Rattle.sig_items.specs.Steps.{reported}
use Rattle.sig_items.proofs.Arms.{pointer_reported, function_reported}
use Rattle.sig_items.proofs.types.core_behind.Goals as goal

pub returns-in-15-clause-reported : goal.returns-in-15-clause-reported
returns-in-15-clause-reported c =
    pointer_reported c.args.depth c.args.code c.args.tail.now (reported c.deeper.result) c.in-15.is c.deeper.ensures.none c.deeper.ensures.reported

pub returns-in-27-clause-reported : goal.returns-in-27-clause-reported
returns-in-27-clause-reported c =
    function_reported c.args.depth c.args.code c.args.tail.now (reported c.deeper-in-27.result) c.in-27.is c.deeper-in-27.ensures.none c.deeper-in-27.ensures.reported
