use Rattle.sig_items.proofs.Prelude.{◌≡◌, ◌∙◌, ◌/◌, ◌%◌, eqb, true, sym, ap, rules, method_head, item_then, params_reported}
use Rattle.sig_items.specs.declared.position.Position.TheVariants as position
use Rattle.sig_items.proofs.Counts.{next_joined}
use Rattle.sig_items.proofs.Heads.{method_is}
use Rattle.sig_items.proofs.methods.method.Goals as goal

pub returns-clause-reported : goal.returns-clause-reported
returns-clause-reported c =
    let begins : c.begins_method.result ≡ true = search rules in
    let code = c.in_ok-code.code in
    let count = c.in_ok-count.count in
    rw (c.in_first_byte.ensures, c.has_this.ensures, c.has_explicit_this.ensures)
    (ap (item_then (method_head (code % 16) (eqb (code / 32 % 2) 1) (eqb (code / 64 % 2) 1) c.in_ok-generic.generic count))
    (next_joined c.params.result (position.Ret c.args.depth) (params_reported count c.takes_sentinel.result c.args.depth) c.in_ok-count.tail.now c.params.ensures.reported)
    ∙ sym (method_is c.args.own c.takes_sentinel.result c.args.depth code count c.args.bytes.now c.in_ok-code.tail.now c.in_ok-generic.tail.now c.in_ok-count.tail.now c.in_ok-generic.generic c.in_ok-code.ensures
    (sym c.begins_method.ensures ∙ begins) (sym c.in_ok-generic.ensures) (sym c.in_ok-count.ensures) c.takes_sentinel.ensures))
