use Rattle.cli_outline.proofs.DeclarationLemmas.{word_boundary, word_len}
use Rattle.cli_outline.proofs.line.first_word.Goals as goal

pub split_at-requires : goal.split_at-requires
split_at-requires c =
    let same = rw (c.end_of_word.ensures, c.as_bytes.ensures.value, word_len c.args.text.now) at c.unwrap_or-len.ensures in rw same (word_boundary c.args.text.now)

pub returns : goal.returns
returns c =
    let same = rw (c.end_of_word.ensures, c.as_bytes.ensures.value, word_len c.args.text.now) at c.unwrap_or-len.ensures in rw same at c.split_at.ensures.front
