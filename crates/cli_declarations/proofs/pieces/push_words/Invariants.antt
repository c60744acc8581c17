use Rattle.cli_declarations.proofs.Prelude.{string_bytes, ◌≡◌, ◌++◌, map, take, shown_word, words_text}
use Rattle.cli_declarations.proofs.pieces.push_words.Given as goal

abbrev pub invariant-loop-word : goal.invariant-loop-word
invariant-loop-word l = string_bytes l.declared.text ≡ string_bytes l.initial.declared.text ++ words_text l.flags (map shown_word (take l.word-index l.word-items))
