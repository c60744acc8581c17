use Rattle.writer.proofs.LengthLemmas.{length-zero_padded}
use Rattle.writer.proofs.stream_lens.padded_len.Goals as goal

pub returns-clause-value : goal.returns-clause-value
returns-clause-value c bytes is = length-zero_padded bytes c.args.len is
