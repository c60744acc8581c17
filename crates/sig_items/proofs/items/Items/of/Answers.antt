use Rattle.std.proofs.Common.{◌≡◌, true, rules}
use Rattle.sig_items.proofs.Stacks.{first_ready, first_items}
use Rattle.sig_items.proofs.items.Items.of.Goals as goal

pub invariant_of-result : goal.invariant_of-result
invariant_of-result c =
    let holds : c.recognise.result ≡ true = search rules in
    let found = c.recognise.ensures.encoded.0 holds in
    rw c.new.ensures (first_ready c.args.kind found.0 c.args.bytes.now (c.signatures_are_read.ensures.read c.args.kind found.0 c.args.bytes.now found.1))

pub returns-clause-sound : goal.returns-clause-sound
returns-clause-sound c =
    let holds : c.recognise.result ≡ true = search rules in
    let found = c.recognise.ensures.encoded.0 holds in
    (found.0, found.1, rw c.new.ensures (first_items c.args.kind found.0 c.args.bytes.now (c.signatures_are_read.ensures.read c.args.kind found.0 c.args.bytes.now found.1)))

pub returns-clause-complete : goal.returns-clause-complete
returns-clause-complete c = λ signature encodes.
    rw c.new.ensures (first_items c.args.kind signature c.args.bytes.now (c.signatures_are_read.ensures.read c.args.kind signature c.args.bytes.now encodes))
