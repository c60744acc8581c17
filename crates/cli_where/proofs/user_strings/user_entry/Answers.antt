use Rattle.std.proofs.Common.{arith, inr}
use Rattle.cli_where.proofs.EntryLemmas.{entry_is, user_is}
use Rattle.cli_where.proofs.user_strings.user_entry.Goals as goal

pub returns-in_err-size-clause-none : goal.returns-in_err-size-clause-none
returns-in_err-size-clause-none c = rw c.from_residual.ensures (inr (λ string next is. c.in_err-size.ensures.complete is.blob is.stands))

pub returns-in-Ok-clause-sound : goal.returns-in-Ok-clause-sound
returns-in-Ok-clause-sound c =
    entry_is c.args.heap.now c.args.index _ c.in_ok-size.size c.in-Ok.string c.requires (omega (arith, c.if-index-ge-PAST_TOKENS.false)) c.in-Ok.ensures.sound c.in_ok-size.ensures.complete

pub returns-in-Err-clause-none : goal.returns-in-Err-clause-none
returns-in-Err-clause-none c =
    inr (λ string next is. c.in-Err.ensures.complete string (user_is c.args.heap.now c.args.index _ string next c.requires (omega (arith, c.if-index-ge-PAST_TOKENS.false)) is))
