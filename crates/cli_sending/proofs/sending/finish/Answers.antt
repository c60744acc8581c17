use Rattle.cli_sending.proofs.SentLemmas.{flushed}
use Rattle.cli_sending.proofs.sending.finish.Goals as goal

pub returns : goal.returns
returns g c =
    flushed c.flush.result (g.W.Write.contents c.args.out.now) (g.W.Write.contents c.send.new.out) (g.W.Write.contents c.flush.new.self) c.args.bytes.now
    c.in_ok-send.ensures c.flush.ensures.bytes
