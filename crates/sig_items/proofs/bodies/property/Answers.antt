use Rattle.sig_items.proofs.Prelude.{◌∙◌, false, sym, ap, item_then, params_reported}
use Rattle.sig_items.specs.declared.item.Item.TheVariants as item
use Rattle.sig_items.specs.declared.position.Position.TheVariants as position
use Rattle.sig_items.proofs.Counts.{next_joined}
use Rattle.sig_items.proofs.Heads.{property_is}
use Rattle.sig_items.proofs.bodies.property.Goals as goal

pub returns-clause-reported : goal.returns-clause-reported
returns-clause-reported c =
    ap (item_then (item.Property c.args.this c.in_ok-count.count)) (next_joined c.params.result (position.Slot 128) (params_reported c.in_ok-count.count false 128) c.in_ok-count.tail.now c.params.ensures.reported)
    ∙ sym (property_is c.args.this c.in_ok-count.count c.args.bytes.now c.in_ok-count.tail.now (sym c.in_ok-count.ensures))
