use Rattle.sig_recogniser.proofs.Prelude.{◌≡◌, ◌∙◌, sym, true, None, Some, [], starts_prefix, left, remains, bad_token}
use Rattle.sig_recogniser.proofs.ItemLemmas.{prefix_step, prefixes_end}
use Rattle.sig_recogniser.proofs.type_index.after_prefixes.Goals as goal

pub returns-in_err-code : goal.returns-in_err-code
returns-in_err-code c = absurd (let starts : starts_prefix [] ≡ true = rw c.in_err-code.ensures at (sym c.has_prefix.ensures ∙ c.loop-here-test.true) in cc)

pub returns-in_err-here : goal.returns-in_err-here
returns-in_err-here c =
    rw c.from_residual-in_err-here.ensures (sym (sym c.loop-here.invariant ∙ (prefix_step c.args.counts.now (remains c.args.bytes.now c.loop-here.here) (remains c.args.bytes.now c.in_ok-code.behind) c.in_ok-code.code (bad_token c.loop-here.here) (bad_token c.in_ok-code.behind) None (sym c.has_prefix.ensures ∙ c.loop-here-test.true) c.in_ok-code.ensures.0 c.in_ok-code.ensures.1 c.in_err-here.ensures).0))

pub loop-here-smaller : goal.loop-here-smaller
loop-here-smaller c = (prefix_step c.args.counts.now (remains c.args.bytes.now c.loop-here.here) (remains c.args.bytes.now c.in_ok-code.behind) c.in_ok-code.code (bad_token c.loop-here.here) (bad_token c.in_ok-code.behind) (Some (left c.args.bytes.now c.in_ok-here.here)) (sym c.has_prefix.ensures ∙ c.loop-here-test.true) c.in_ok-code.ensures.0 c.in_ok-code.ensures.1 c.in_ok-here.ensures).1

pub loop-here-preserved : goal.loop-here-preserved
loop-here-preserved c =
    sym (prefix_step c.args.counts.now (remains c.args.bytes.now c.loop-here.here) (remains c.args.bytes.now c.in_ok-code.behind) c.in_ok-code.code (bad_token c.loop-here.here) (bad_token c.in_ok-code.behind) (Some (left c.args.bytes.now c.in_ok-here.here)) (sym c.has_prefix.ensures ∙ c.loop-here-test.true) c.in_ok-code.ensures.0 c.in_ok-code.ensures.1 c.in_ok-here.ensures).0 ∙ c.loop-here.invariant

pub returns : goal.returns
returns c = sym (prefixes_end c.args.counts.now (remains c.args.bytes.now c.loop-here.here) (bad_token c.loop-here.here) (sym c.has_prefix.ensures ∙ c.loop-here-test.false)) ∙ c.loop-here.invariant
