use Rattle.sig_text.proofs.Prelude.{sym, core_shown, member_shown}
use Rattle.sig_text.proofs.Bodies.{member_is}
use Rattle.sig_text.proofs.Chains.{ended}
use Rattle.sig_text.proofs.Encoded.{NumbersAreRead}
use Rattle.sig_text.proofs.declared.write_declaration.Goals as goal

pub returns-clause-words : goal.returns-clause-words
returns-clause-words g c = (ended c.result_of.result c.result_of.ensures c.member.ensures).1

pub returns-clause-text : goal.returns-clause-text
returns-clause-text g c = λ signature declares.
    let known : NumbersAreRead = record { unsigned = c.numbers_are_read.ensures.unsigned_only; signed = c.numbers_are_read.ensures.signed_only; tokens = c.indexes_are_read.ensures.complete } in
    rw (sym (member_is known signature c.args.bytes.now declares)) (ended c.result_of.result c.result_of.ensures c.member.ensures).0

pub returns-clause-pieces : goal.returns-clause-pieces
returns-clause-pieces g c = (member_shown (core_shown 128) c.args.bytes.now, (ended c.result_of.result c.result_of.ensures c.member.ensures).0)
