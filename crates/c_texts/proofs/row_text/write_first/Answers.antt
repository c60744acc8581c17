use Rattle.c_texts.proofs.Prelude.{rules, [], ◌+◌, sym, ◌∙◌, arith, text_limit}
use Rattle.c_texts.proofs.Buffers.{none_written}
use Rattle.c_texts.proofs.SinkLemmas.{added}
use Rattle.c_texts.proofs.row_text.write_first.Goals as goal

pub returns : goal.returns
returns c = λ model is.
    let wrote = c.in_ok-write_whole.ensures model is in
    let all = added (text_limit + 1) (λ w. w.buffer.ghost_name) (λ w. w.buffer.now) (λ w. w.len) _ wrote.0 _ wrote.2 in
    let has = all.1 c.args.buffer.now [] (omega arith) (none_written (text_limit + 1) c.args.buffer.now) in
    let same_buffer = sym all.0 in
    (wrote.0, wrote.1, (search rules ∙ has.0, has.1))
