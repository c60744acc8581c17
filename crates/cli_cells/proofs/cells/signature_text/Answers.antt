use Rattle.cli_cells.proofs.Prelude.{◌∙◌, ◌++◌, ap, refl, is_some, signature_text, ◌≡◌, Bool, true, List, ℕ, sym, append_assoc, append-nil, piece_bytes, flat_map}
use Rattle.sig_text.specs.SignatureText.{Piece}
use Rattle.sig_text.specs.Receives.{Receives, nothing, refused, taken}
use Rattle.cli_cells.proofs.cells.signature_text.Goals as goal

-- a sink that appends the text of each piece that it takes appends the texts of all
module _ {K : Type 0} (gives : K → Piece → Bool → K → Type 0) (text : K → List ℕ) (step : (s : K) (p : Piece) (t : K) → gives s p true t → text t ≡ text s ++ piece_bytes p) where
  received : {s t : K} {ps : List Piece} {all : Bool} → Receives gives s ps all t → all ≡ true → text t ≡ text s ++ flat_map piece_bytes ps
  received {s = s} nothing whole = sym (append-nil (text s))
  received (refused call) whole = absurd cc
  received {s = s} {t = t} (taken {t = u} {p = p} {ps = ps} call more) whole =
      received more whole ∙ ap (λ xs. xs ++ flat_map piece_bytes ps) (step s p u call) ∙ append_assoc (text s) (piece_bytes p) (flat_map piece_bytes ps)

pub returns-in-Some : goal.returns-in-Some
returns-in-Some c = λ signature encodes.
    received _ (λ s. s.text.items) (λ s p t call. call refl) (c.write_encoded.ensures.text signature encodes) (ap is_some c.in-Some.is)
    ∙ ap (λ xs. xs ++ signature_text signature) c.in_ok-text.ensures.items
