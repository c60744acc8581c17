use Rattle.cli_outline.proofs.Prelude.{◌∙◌, IfOk-weaker, take_min}
use Rattle.cli_outline.proofs.orders.key_of.Goals as goal

pub returns : goal.returns
returns c = λ model is.
    let it = c.in_ok-name_and_declare.ensures model is in
    let cut = rw (c.min.ensures, take_min c.args.limit c.as_bytes-whole.result.now, c.as_bytes-whole.ensures.value, it.4) at c.split_at.ensures.front in
    IfOk-weaker c.from_slice.result _ _ (λ key same. rw (← c.shows.ensures model is, c.if-not-shows.false) (it.0, it.1, it.2, it.3, same ∙ cut)) c.from_slice.ensures.items
