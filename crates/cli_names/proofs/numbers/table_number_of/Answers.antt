use Rattle.std.proofs.Common.{◌∙◌, arith, sym, lit<}
use Rattle.cli_names.proofs.NumbersRead.{short_read}
use Rattle.cli_names.proofs.numbers.table_number_of.Goals as goal

pub returns : goal.returns
returns c =
    let first = c.starts_with.ensures.byte (lit< tt) (lit< tt) (λ w o finds. finds) in
    short_read 8 16 2 _ c.args.word.now c.from_str_radix.result c.ok.result c.if-word-ne2.false (omega arith) (omega arith) (omega arith) (sym first ∙ c.if-starts_with.false)
    c.from_str_radix.ensures.value c.ok.ensures.value
