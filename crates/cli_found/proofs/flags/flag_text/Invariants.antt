use Rattle.cli_found.proofs.Prelude.{string_bytes, ◌≡◌, drop, fold, map, shown_word, flag_text, with_word}
use Rattle.cli_found.proofs.flags.flag_text.Given as goal

-- with the words from this one on, the text is that of all words
abbrev pub invariant-loop-word : goal.invariant-loop-word
invariant-loop-word l = fold (with_word l.number) (string_bytes l.text) (map shown_word (drop l.word-index l.words)) ≡ flag_text l.fn.of l.number
