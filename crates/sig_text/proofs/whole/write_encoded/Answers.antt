use Rattle.std.proofs.Common.{sym}
use Rattle.sig_text.proofs.Bodies.{body_is}
use Rattle.sig_text.proofs.Chains.{ended}
use Rattle.sig_text.proofs.Encoded.{NumbersAreRead}
use Rattle.sig_text.proofs.whole.write_encoded.Goals as goal

pub returns-clause-words : goal.returns-clause-words
returns-clause-words g c = (ended c.result_of.result c.result_of.ensures c.body.ensures).1

pub returns-clause-text : goal.returns-clause-text
returns-clause-text g c = λ signature e.
    let known : NumbersAreRead = record { unsigned = c.numbers_are_read.ensures.unsigned_only; signed = c.numbers_are_read.ensures.signed_only; tokens = c.indexes_are_read.ensures.complete } in
    rw (sym (body_is known c.args.kind signature c.args.bytes.now e)) (ended c.result_of.result c.result_of.ensures c.body.ensures).0
