use Rattle.sig_text.proofs.Prelude.{ℕ, List, [], ◌∷◌, ◌++◌, codes, word, method_name, generics_text, core_shown, declared_shown, named_slots_shown}
use Rattle.sig_text.proofs.Chains.{and_then, read_on}
use Rattle.sig_text.proofs.declared.declaration.Goals as goal

pub returns : goal.returns
unfolding declared_shown
returns g c =
    let generic = c.generic-generic.result.0 in
    let count = c.number-count.result.0 in
    rw (← c.byte-code.ensures, ← c.generic-generic.ensures, ← c.number-count.ensures)
    (and_then c.convention.ensures (and_then c.slot-tail.ensures.wrote
    (read_on (λ (b : List ℕ). word (codes " ") ∷ (method_name ∷ (generics_text generic ++ (word (codes "(") ∷ (named_slots_shown (core_shown 128) [] 1 count b ++ word (codes ")") ∷ []))))) c.slot-tail.ensures
    (and_then c.put_text.ensures (and_then c.put_method_name.ensures (and_then c.generics.ensures (and_then c.put_text-2.ensures (and_then c.params.ensures c.put_text-3.ensures))))))))
