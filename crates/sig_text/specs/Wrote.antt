-- What private functions pass to a sink, if it has taken all before. They keep a flag that says so.
use Rattle.std.specs.Prelude.{◌≡◌, ℕ, Bool, true, false, if◌then◌else◌, List}
use Rattle.sig_text.specs.Receives.{Receives}
use Rattle.sig_text.specs.Shown.{Shown}
use Rattle.sig_text.specs.SignatureText.{Piece}

-- The sink received the pieces, unless it had refused one before: then it did not change. The flag before and after says
-- whether it took all pieces so far.
pub record Wrote {S : Type 0} (refused : S → Bool) (gives : S → Piece → Bool → S → Type 0) (old : S) (before : Bool) (pieces : List Piece) (new : S) (after : Bool) : Type 0 where
  pub received : before ≡ true → Receives gives old pieces after new × (refused new ≡ (if after then refused old else true))
  pub kept : before ≡ false → (new ≡ old) × (after ≡ false)

-- the same of the pieces that are shown, and the bytes after them if the sink took all
pub record Passes {S : Type 0} (refused : S → Bool) (gives : S → Piece → Bool → S → Type 0) (old : S) (before : Bool) (shown : Shown) (new : S) (after : Bool) (end : List ℕ) : Type 0 where
  pub wrote : Wrote refused gives old before shown.0 new after
  pub tail : after ≡ true → end ≡ shown.1
