use Rattle.c_texts.proofs.Prelude.{◌≡◌, ◌+◌, ◌≤◌, length, take, drop, ◌∙◌, arith, zero_padded}
use Rattle.c_texts.proofs.UserLemmas.{blob_complete, blob_sound, head_is}
use Rattle.c_texts.proofs.user_strings.blob_at.Goals as goal
use Rattle.c_texts.proofs.user_strings.blob_at.Goals.{After-split_at}

head : (c : After-split_at) → c.split_at.result.0.now ≡ take 4 (drop c.args.offset (zero_padded c.args.heap.now))
head c =
    head_is (zero_padded c.args.heap.now) c.split_at.result.0.now c.args.offset c.byte_at.result c.byte_at-2.result c.byte_at-3.result c.byte_at-4.result c.min.result
    c.byte_at.ensures c.byte_at-2.ensures c.byte_at-3.ensures c.byte_at-4.ensures (omega arith) c.split_at.ensures.front

pub returns-in_err-count-clause-complete : goal.returns-in_err-count-clause-complete
returns-in_err-count-clause-complete c = λ blob is.
    let (prefix, tail, whole, packed, fits) = blob_complete (zero_padded c.args.heap.now) blob c.args.offset (omega arith) is in
    absurd (c.in_err-count.ensures.complete (length blob) prefix tail (head (goal.at.returns-in_err-count-clause-complete c).After-split_at ∙ whole) packed)

pub returns-then-len-offset-clause-complete : goal.returns-then-len-offset-clause-complete
returns-then-len-offset-clause-complete c = λ blob is.
    let (prefix, tail, whole, packed, fits) = blob_complete (zero_padded c.args.heap.now) blob c.args.offset (omega arith) is in
    let found = c.in_ok-count.ensures.complete (length blob) prefix tail (head (goal.at.returns-then-len-offset-clause-complete c).After-split_at ∙ whole) packed in
    absurd (omega (arith, found.0, found.1, fits, c.if-len-offset.true))

pub returns-clause-sound : goal.returns-clause-sound
returns-clause-sound c =
    let heap = zero_padded c.args.heap.now in
    let sound = c.in_ok-count.ensures.sound in
    let within : c.args.offset ≤ length heap = omega arith in
    let fits : (c.args.offset + c.in_ok-count.used) + c.in_ok-count.count ≤ length heap = omega arith in (
      fits,
      blob_sound heap c.split_at.result.0.now c.args.offset c.in_ok-count.used c.in_ok-count.count (omega arith) within
          (head (goal.at.returns-clause-sound c).After-split_at) sound.0 sound.1 fits,
    )
