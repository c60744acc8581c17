-- What a sink receives: pieces one after another, until it refuses one.
use Rattle.std.specs.Prelude.{Bool, true, false, List, [], ◌∷◌}
use Rattle.sig_text.specs.SignatureText.{Piece}

-- The sink receives the pieces in order, from the first state to the last. It took all of them, or it refused one and
-- received none after it. `gives s p taken t` is a call with the piece p.
pub data Receives {S : Type 0} (gives : S → Piece → Bool → S → Type 0) : S → List Piece → Bool → S → Type 0 where
  nothing : {s : S} → Receives gives s [] true s
  refused : {s t : S} {p : Piece} {ps : List Piece} → gives s p false t → Receives gives s (p ∷ ps) false t
  taken : {s t u : S} {p : Piece} {ps : List Piece} {all : Bool} → gives s p true t → Receives gives t ps all u → Receives gives s (p ∷ ps) all u
