use Rattle.c_texts.proofs.Prelude.{arith, signature_text}
use Rattle.c_texts.proofs.Buffers.{first_written}
use Rattle.c_texts.proofs.signature_text.write_signature_text.Goals as goal

pub returns-clause-text : goal.returns-clause-text
returns-clause-text c = λ signature is.
    first_written c.args.buffer.now (signature_text signature) c.split_at_mut-first.result.0.now c.split_at_mut-first.result.1.now c.write_first.new.buffer
    c.min.result c.write_first.result c.len_within.result (omega arith) c.split_at_mut-first.ensures.front c.split_at_mut-first.ensures.back
    (c.write_first.ensures signature is) c.len_within.ensures.short c.len_within.ensures.long
