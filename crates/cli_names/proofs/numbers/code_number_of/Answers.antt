use Rattle.std.proofs.Common.{◌∙◌, arith, sym, lit<}
use Rattle.cli_names.proofs.NumbersRead.{short_read}
use Rattle.cli_names.proofs.numbers.code_number_of.Goals as goal

pub returns : goal.returns
returns c =
    let first = c.starts_with.ensures.byte (lit< tt) (lit< tt) (λ w o finds. finds) in
    short_read 16 10 3 _ c.args.word.now c.from_str_radix.result c.ok.result c.if-word-ne3.false (omega arith) (omega arith) (omega arith) (sym first ∙ c.if-starts_with.false)
    c.from_str_radix.ensures.value c.ok.ensures.value
