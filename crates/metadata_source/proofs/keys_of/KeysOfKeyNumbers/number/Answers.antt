use Rattle.std.proofs.Common.{◌≤◌, ◌∙◌, sym, subst}
use Rattle.metadata_source.proofs.KeyLemmas.{numbers_count, number_is}
use Rattle.metadata_source.proofs.keys_of.KeysOfKeyNumbers.number.Goals as goal

pub key-requires-clause-last : goal.key-requires-clause-last
key-requires-clause-last g c = subst (λ n. c.args.row ≤ n) (numbers_count _ _) c.requires.last

pub returns : goal.returns
returns g c =
    c.key.ensures ∙ sym (number_is _ _ c.args.row 0 c.requires.first (subst (λ n. c.args.row ≤ n) (numbers_count _ _) c.requires.last))
