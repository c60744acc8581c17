use Rattle.c_texts.proofs.Prelude.{◌≡◌, ℕ, ◌+◌, ◌++◌, drop, min, arith, sym, ap, refl, ◌∙◌, hexadecimal, token_text, text_limit}
use Rattle.c_texts.proofs.Buffers.{stays}
use Rattle.c_texts.proofs.HexLemmas.{six_digits}
use Rattle.c_texts.proofs.SinkLemmas.{in_parts}
use Rattle.c_texts.proofs.signature_text.SignatureSinkTextSink.name.Goals as goal
use Rattle.c_texts.proofs.signature_text.SignatureSinkTextSink.name.Goals.{After-pair}

-- the two parts of the text
parts : (c : After-pair) → token_text c.args.token ≡ c.pair.result ++ c.split_at.result.1.now
parts c =
    let table = c.pair.ensures ∙ ap (hexadecimal 2) c.number.ensures.value in
    let most : c.min.result ≡ min c.digits-first.result.1 2 = omega arith in
    let row = c.split_at.ensures.back ∙ ap (λ (n : ℕ). drop n c.digits-first.result.0) most ∙ six_digits c.args.token.row c.digits-first.result.1 c.digits-first.result.0 c.digits-first.ensures.text c.digits-first.ensures.long in
    sym (λ i. table i ++ row i)

pub returns-in_err-push-clause-piece : goal.returns-in_err-push-clause-piece
returns-in_err-push-clause-piece c =
    let past = c.in_err-push.ensures.past refl in (
      c.push.ensures.same_buffer,
      in_parts (text_limit + 1) c.args.self.now.buffer.now c.push.new.self.buffer.now c.push.new.self.buffer.now c.pair.result c.split_at.result.1.now
          (token_text c.args.token) c.args.self.now.len c.push.new.self.len c.push.new.self.len c.in_err-push.ensures.written
          (stays (text_limit + 1) c.push.new.self.len c.push.new.self.buffer.now c.split_at.result.1.now past) (parts (goal.at.returns-in_err-push-clause-piece c).After-pair),
      λ none. past,
    )

pub returns-clause-piece : goal.returns-clause-piece
returns-clause-piece c = (
  c.push-2.ensures.same_buffer ∙ c.push.ensures.same_buffer,
  in_parts (text_limit + 1) c.args.self.now.buffer.now c.push.new.self.buffer.now c.push-2.new.self.buffer.now
      c.pair.result c.split_at.result.1.now (token_text c.args.token) c.args.self.now.len c.push.new.self.len c.push-2.new.self.len
      c.in_ok-push.ensures.written c.push-2.ensures.written (parts (goal.at.returns-clause-piece c).After-pair),
  c.push-2.ensures.past,
)
