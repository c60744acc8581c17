use Rattle.std.proofs.Common.{◌≡◌, ◌∙◌, ap, arith, length, min, take}
use Rattle.std.proofs.lemmas.List.{take_min}
use Rattle.cli_values.specs.Constants.{value_limit}
use Rattle.cli_values.proofs.bytes.printed.Goals as goal

pub returns : goal.returns
returns c =
    let bytes = c.args.bytes.now in
    let least : c.min.result ≡ min value_limit (length bytes) = omega (arith, c.min.ensures) in
    c.split_at.ensures.front ∙ ap (λ n. take n bytes) least ∙ take_min value_limit bytes
