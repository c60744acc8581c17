use Rattle.std.proofs.Common.{◌∙◌}
use Rattle.std.proofs.lemmas.Result.{on_ok_weaker}
use Rattle.cli_files.proofs.Beginning.{read_whole}
use Rattle.cli_files.proofs.input.read_first.Goals as goal

pub returns : goal.returns
returns g c =
    on_ok_weaker c.read_to_end.result (λ is.
    read_whole g.F.Read.remaining c.args.reader c.take.result.inner c.take.result.limit 1073741825 c.reserve_exact.new.self.items c.read_to_end.new.buf.items
    c.take.ensures.inner c.take.ensures.limit (c.in_ok-reserve_exact.ensures.items ∙ c.clear.ensures.items) is) c.read_to_end.ensures.bytes
