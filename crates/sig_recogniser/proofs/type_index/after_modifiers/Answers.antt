use Rattle.sig_recogniser.proofs.Prelude.{◌≡◌, ◌∙◌, sym, true, None, Some, [], starts_modifier, left, remains, bad_token}
use Rattle.sig_recogniser.proofs.ItemLemmas.{modifier_step, modifiers_end}
use Rattle.sig_recogniser.proofs.type_index.after_modifiers.Goals as goal

pub returns-in_err-behind : goal.returns-in_err-behind
returns-in_err-behind c = absurd (let starts : starts_modifier [] ≡ true = rw c.in_err-behind.ensures at (sym c.has_modifier.ensures ∙ c.loop-here-test.true) in cc)

pub returns-in_err-here : goal.returns-in_err-here
returns-in_err-here c =
    rw c.from_residual-in_err-here.ensures (sym (sym c.loop-here.invariant ∙ (modifier_step c.args.counts.now (remains c.args.bytes.now c.loop-here.here) (remains c.args.bytes.now c.in_ok-behind.behind) c.in_ok-behind.field-0-0 (bad_token c.loop-here.here) (bad_token c.in_ok-behind.behind) None (sym c.has_modifier.ensures ∙ c.loop-here-test.true) c.in_ok-behind.ensures.0 c.in_ok-behind.ensures.1 c.in_err-here.ensures).0))

pub loop-here-smaller : goal.loop-here-smaller
loop-here-smaller c = (modifier_step c.args.counts.now (remains c.args.bytes.now c.loop-here.here) (remains c.args.bytes.now c.in_ok-behind.behind) c.in_ok-behind.field-0-0 (bad_token c.loop-here.here) (bad_token c.in_ok-behind.behind) (Some (left c.args.bytes.now c.in_ok-here.here)) (sym c.has_modifier.ensures ∙ c.loop-here-test.true) c.in_ok-behind.ensures.0 c.in_ok-behind.ensures.1 c.in_ok-here.ensures).1

pub loop-here-preserved : goal.loop-here-preserved
loop-here-preserved c =
    sym (modifier_step c.args.counts.now (remains c.args.bytes.now c.loop-here.here) (remains c.args.bytes.now c.in_ok-behind.behind) c.in_ok-behind.field-0-0 (bad_token c.loop-here.here) (bad_token c.in_ok-behind.behind) (Some (left c.args.bytes.now c.in_ok-here.here)) (sym c.has_modifier.ensures ∙ c.loop-here-test.true) c.in_ok-behind.ensures.0 c.in_ok-behind.ensures.1 c.in_ok-here.ensures).0 ∙ c.loop-here.invariant

pub returns : goal.returns
returns c = sym (modifiers_end c.args.counts.now (remains c.args.bytes.now c.loop-here.here) (bad_token c.loop-here.here) (sym c.has_modifier.ensures ∙ c.loop-here-test.false)) ∙ c.loop-here.invariant
