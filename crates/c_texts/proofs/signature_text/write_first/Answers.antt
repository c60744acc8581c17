use Rattle.c_texts.proofs.Prelude.{rules, [], ◌+◌, sym, ◌∙◌, arith, text_limit}
use Rattle.c_texts.proofs.Buffers.{none_written}
use Rattle.c_texts.proofs.SinkLemmas.{received}
use Rattle.c_texts.proofs.signature_text.write_first.Goals as goal

pub returns : goal.returns
returns c = λ signature is.
    let all = received (text_limit + 1) (λ s. s.buffer.ghost_name) (λ s. s.buffer.now) (λ s. s.len) (c.write_signature.ensures.text signature is) in
    let has = all.1 c.args.buffer.now [] (omega arith) (none_written (text_limit + 1) c.args.buffer.now) in
    let same_buffer = sym all.0 in
    (search rules ∙ has.0, has.1)
