use Rattle.sig_text.proofs.Prelude.{ℕ, List, ◌∷◌, codes, word, core_shown, enclosed_shown, property_shown}
use Rattle.sig_text.proofs.Chains.{pieces_first, in_turn}
use Rattle.sig_text.proofs.whole.property.Goals as goal

pub returns : goal.returns
unfolding property_shown
returns g c =
    let params = enclosed_shown (core_shown 128) (codes "(") (codes ")") c.number-count.result.0 in
    rw (← c.number-count.ensures)
    (pieces_first c.put_if.ensures
    (in_turn (λ (b : List ℕ). (word (codes " ") ∷ (params b).0, (params b).1)) c.slot-tail.ensures (pieces_first c.put_text.ensures c.enclosed.ensures)))
