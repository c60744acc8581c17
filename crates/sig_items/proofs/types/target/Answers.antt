use Rattle.sig_items.proofs.Prelude.{◌≡◌, ◌∙◌, false, sym, rules, starts_modifier}
use Rattle.sig_items.proofs.Arms.{target_void}
use Rattle.sig_items.proofs.types.target.Goals as goal

pub returns-in-1-default-clause-reported : goal.returns-in-1-default-clause-reported
returns-in-1-default-clause-reported c =
    let stops : starts_modifier c.args.bytes.now ≡ false = sym c.has_modifier.ensures ∙ c.if-has_modifier.false in
    let code : c.in_ok-tail.field-0.0 ≡ 0x01 = search rules in
    c.leaf.ensures.reported ∙ sym (target_void c.args.depth c.in_ok-tail.field-0.0 c.args.bytes.now c.in_ok-tail.field-0.1.now stops c.in_ok-tail.ensures code)
