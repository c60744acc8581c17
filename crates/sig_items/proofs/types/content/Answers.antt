use Rattle.std.proofs.Common.{◌∙◌, sym}
use Rattle.sig_items.proofs.Arms.{content_by_ref}
use Rattle.sig_items.proofs.types.content.Goals as goal

pub returns-in-16-clause-reported : goal.returns-in-16-clause-reported
returns-in-16-clause-reported c =
    c.before-in-16.ensures.reported ∙ sym (content_by_ref c.args.depth c.in_ok-code.code c.args.bytes.now c.in_ok-code.tail.now c.in_ok-code.ensures c.in-16.is)
