use Rattle.std.proofs.Common.{◌∙◌, ap, arith}
use Rattle.cli_files.specs.Hints.{begin_with}
use Rattle.cli_files.proofs.Beginning.{passed, read}
use Rattle.cli_files.proofs.walk.read_if_like.Goals as goal

pub returns-then-not-starts_with : goal.returns-then-not-starts_with
returns-then-not-starts_with g c = (
  c.take-file.result.inner,
  passed g.R.File.Read.remaining c.take-file.result c.read_once.new.reader c.args.input c.signature_of-signature.result.now c.read_once.new.bytes.items
      c.signature_of-signature.ensures c.take-file.ensures.limit c.in_ok-read_once.ensures
      c.starts_with.result c.read_once.new.bytes.items (omega (arith, c.if-len-signature.true)) (c.starts_with.ensures.value ∙ ap (begin_with c.signature_of-signature.result.now) c.deref.ensures.value) c.if-not-starts_with.true,
)

pub returns : goal.returns
returns g c = (
  c.take-file.result.inner,
  read g.R.File.Read.remaining c.take-file.result c.read_once.new.reader c.args.input c.signature_of-signature.result.now c.read_once.new.bytes.items
      c.signature_of-signature.ensures c.take-file.ensures.limit c.in_ok-read_once.ensures
      c.starts_with-2.result c.reserve_exact.new.self.items c.read_to_end.new.buf.items c.in_ok-reserve_exact.ensures.items c.in_ok-read_to_end.ensures.bytes
      (c.starts_with-2.ensures.value ∙ ap (begin_with c.signature_of-signature.result.now) c.deref-2.ensures.value),
)
