use Rattle.checks.proofs.Prelude.{◌≡◌, take, drop, ap, ◌∙◌, take_min, bytes_before_nul}
use Rattle.checks.proofs.TextBytes.{found_before_nul}
use Rattle.checks.proofs.texts.bytes_before_nul.Goals as goal

pub returns-clause-bytes : goal.returns-clause-bytes
returns-clause-bytes c =
    let tail = c.split_at.result.1.now in
    let near = c.split_at-2.result.0.now in
    let is : near ≡ take c.args.most (drop c.args.start c.args.heap.now) =
    c.split_at-2.ensures.front ∙ ap (λ n. take n tail) c.min.ensures ∙ take_min c.args.most tail ∙ ap (take c.args.most) c.split_at.ensures.back in
    c.unwrap_or.ensures ∙ found_before_nul near c.memchr.result c.memchr.ensures ∙ ap bytes_before_nul is
