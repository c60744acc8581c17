use Rattle.std.proofs.Common.{eqb-true, sym, take}
use Rattle.std.proofs.lemmas.List.{nil_from_length, take-append-drop}
use Rattle.std.proofs.lemmas.Result.{MatchResult-from_err}
use Rattle.cli_sending.proofs.SentLemmas.{all_sent, cut_here, some_sent}
use Rattle.cli_sending.proofs.sending.send.Goals as goal

pub returns-then-is_empty : goal.returns-then-is_empty
returns-then-is_empty g c =
    all_sent (g.W.Write.contents c.args.out.now) (g.W.Write.contents c.loop-turn.out) c.args.bytes.now c.loop-turn.tail.now c.loop-turn.invariant
    (nil_from_length c.loop-turn.tail.now (eqb-true _ 0 (sym c.if-is_empty.ensures)))

pub returns-in_err-count : goal.returns-in_err-count
returns-in_err-count g c =
    MatchResult-from_err c.from_residual.result _ _ c.from_residual.ensures.0
    (λ error. cut_here (g.W.Write.contents c.args.out.now) (g.W.Write.contents c.loop-turn.out) (g.W.Write.contents c.send_some.new.out) c.args.bytes.now c.loop-turn.tail.now
    c.loop-turn.invariant c.in_err-count.ensures.bytes)

pub returns : goal.returns
returns g c = (c.loop-turn.tail.now, c.loop-turn.invariant)

pub loop-turn-preserved : goal.loop-turn-preserved
loop-turn-preserved g c =
    some_sent (g.W.Write.contents c.args.out.now) (g.W.Write.contents c.loop-turn.out) (g.W.Write.contents c.send_some.new.out) c.args.bytes.now c.loop-turn.tail.now
    (take c.in_ok-count.count c.loop-turn.tail.now) c.split_at.result.1.now c.loop-turn.invariant c.in_ok-count.ensures.bytes
    (rw c.split_at.ensures.back (sym (take-append-drop c.in_ok-count.count c.loop-turn.tail.now)))
