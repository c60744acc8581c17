use Rattle.std.proofs.Common.{◌∙◌, sym, lit<}
use Rattle.cli_names.proofs.NumbersRead.{number_read, plus_denotes_none}
use Rattle.cli_names.proofs.numbers.number_of.Goals as goal

pub returns-then-starts_with : goal.returns-then-starts_with
returns-then-starts_with c =
    let first = c.starts_with.ensures.byte (lit< tt) (lit< tt) (λ w o finds. finds) in
    plus_denotes_none c.args.radix c.args.digits.now c.requires.most (sym first ∙ c.if-starts_with.true)

pub returns : goal.returns
returns c =
    let first = c.starts_with.ensures.byte (lit< tt) (lit< tt) (λ w o finds. finds) in
    number_read 64 c.args.radix c.args.digits.now c.from_str_radix.result c.ok.result (sym first ∙ c.if-starts_with.false)
    c.from_str_radix.ensures.value c.ok.ensures.value
