use Rattle.type_heads.proofs.Prelude.{take, WritesInCalls, leading_words, words_of}
use Rattle.type_heads.proofs.flag_words.write_flags.Given as goal

-- the words before this one are written
abbrev pub invariant-loop-word : goal.invariant-loop-word
invariant-loop-word g l = WritesInCalls g.W.Write.write_str_gives l.initial.out (leading_words l.flags (take l.word-index (words_of l.fn.of))) l.out
