-- What a writer took, from the pieces that a sink received.
use Rattle.full_names.proofs.Prelude.{ℕ, Bool, true, false, List, [], ◌∷◌, ◌++◌, refl, Piece, Wrote, ArePiecesText}
use Rattle.sig_text.specs.Receives.{Receives, nothing, refused, taken}
use Rattle.full_names.proofs.NameExists.{HasText}
use Rattle.full_names.proofs.TextLemmas.{writes_append, writes_nothing, writes_once}

-- A sink keeps a fact, and writes the text of each piece that it takes. If it refuses one, then because its writer needs no
-- more. So it writes the texts of all pieces, if they have any.
module _ {K W : Type 0} (gives : K → Piece → Bool → K → Type 0) (took : W → List ℕ → W → Type 0) (writer : K → W) (keeps ends is_whole : K → Type 0)
    (is_text : Piece → List ℕ → Type 0) (fit : List Piece → Type 0) (fits : (p : Piece) (ps : List Piece) → fit (p ∷ ps) → fit ps)
    (texts : (ps : List Piece) → fit ps → HasText (ArePiecesText is_text ps)) (kept : (s : K) → keeps s → ends s)
    (step : (s : K) (p : Piece) (t : K) → gives s p true t → keeps s → keeps t × Wrote took (writer s) (is_text p) (writer t))
    (last : (s : K) (p : Piece) (t : K) → gives s p false t → keeps s → is_whole t → ends t × ((text : List ℕ) → took (writer s) text (writer t))) where
  pub received : {s t : K} {ps : List Piece} {all : Bool} → Receives gives s ps all t → fit ps → keeps s → is_whole t
      → ends t × Wrote took (writer s) (ArePiecesText is_text ps) (writer t)
  received {s = s} nothing fit_all keep whole = (kept s keep, ([], refl, writes_nothing took (writer s)))
  received {s = s} {t = t} (refused {p = p} {ps = ps} call) fit_all keep whole =
      let end = last s p t call keep whole in
      let text = texts (p ∷ ps) fit_all in
      (end.0, (text.0, text.1, writes_once took (writer s) text.0 (writer t) (end.1 text.0)))
  received {s = s} {t = t} (taken {t = u} {p = p} {ps = ps} call more) fit_all keep whole =
      let one = step s p u call keep in
      let later = received more (fits p ps fit_all) one.0 whole in
      (later.0, (one.1.0 ++ later.1.0, (one.1.0, one.1.1, later.1.0, later.1.1, refl), writes_append took (writer s) one.1.0 (writer u) later.1.0 (writer t) one.1.2 later.1.2))
