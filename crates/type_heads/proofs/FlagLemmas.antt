-- The words of flags one after another.
use Rattle.type_heads.proofs.Prelude.{◌≡◌, ◌∙◌, length, ℕ, suc, ◌+◌, ◌<◌, List, [], get_or, take, map, sym, ap, subst, arith, WritesInCalls, flat_map_more, length-map, writes_append, Word, leading_text, leading_words, shown_word}
use Rattle.std.proofs.Math.ListN.{get_or-map}
use Rattle.std.proofs.Math.Seq.{take-suc}
use Rattle.type_heads.specs.declared.flag_words.FlagWord.{FlagWord}

-- one more word
pub word_more : {W : Type 0} (took : W → List ℕ → W → Type 0) (flags : ℕ) (items : List FlagWord) (words : List Word) (i : ℕ) (d : FlagWord) (before between after : W)
    → map shown_word items ≡ words → i < length items → WritesInCalls took before (leading_words flags (take i words)) between
    → WritesInCalls took between (leading_text flags (shown_word (get_or items i d))) after → WritesInCalls took before (leading_words flags (take (i + 1) words)) after
word_more took flags items words i d before between after same lt so_far one =
    let long = sym (length-map items shown_word) ∙ ap length same in
    let within : i < length words = omega (arith, long, lt) in
    let next : i + 1 ≡ suc i = omega arith in
    let item : shown_word (get_or items i d) ≡ get_or words i (shown_word d) = sym (get_or-map shown_word items i d) ∙ ap (λ zs. get_or zs i (shown_word d)) same in
    let text = flat_map_more (leading_text flags) [] (take i words) (get_or words i (shown_word d))
    ∙ ap (λ ws. leading_words flags ws) (sym (ap (λ n. take n words) next ∙ take-suc words i (shown_word d) within)) in
    subst (λ (t : List ℕ). WritesInCalls took before t after) text
    (writes_append took before (leading_words flags (take i words)) between (leading_text flags (get_or words i (shown_word d))) after so_far
    (subst (λ (w : Word). WritesInCalls took between (leading_text flags w) after) item one))
