use Rattle.metadata.proofs.Prelude.{ℕ, ◌+◌, ◌*◌, ◌^◌, sym, ap, ◌∙◌, tag_bits}
use Rattle.metadata.proofs.KeyLemmas.{tag_is}
use Rattle.metadata.proofs.laws.coded_indexes_are_row_numbers.Goals as goal

pub returns : goal.returns
returns c = λ coded number token is.
    is.equal ∙ ap (λ (tag : ℕ). token.row * 2 ^ tag_bits coded + tag) (sym (tag_is coded token.table is.tag is.listed))
