use Rattle.std.proofs.Common.{◌≡◌, ◌≢◌, sym, rules}
use Rattle.sig_recogniser.proofs.ItemLemmas.{pinned_found, prefix_found}
use Rattle.sig_recogniser.proofs.items.prefix.Goals as goal

pub returns-then-code-eq-PINNED : goal.returns-then-code-eq-PINNED
returns-then-code-eq-PINNED c =
    let code : c.in_ok-code.code ≡ 0x45 = search rules in
    sym (pinned_found c.in_ok-code.code c.args.bytes.now c.in_ok-code.tail.now c.in_ok-code.ensures code)

pub returns : goal.returns
returns c =
    let code : c.in_ok-code.code ≢ 0x45 = search rules in
    sym (prefix_found c.in_ok-code.code c.args.bytes.now c.in_ok-code.tail.now c.in_ok-modifier.tail.now c.in_ok-modifier.modifier c.in_ok-code.ensures code (sym c.in_ok-modifier.ensures))
