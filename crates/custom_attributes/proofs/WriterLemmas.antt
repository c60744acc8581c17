-- What a writer took in several calls.
use Rattle.custom_attributes.proofs.TextPrelude.{◌≡◌, ℕ, List, ◌++◌, OnOk, Ok, Err, Result, subst, WritesInCalls, writes_append}
use Rattle.std.specs.declared.fmt.Error.{Error}

module _ {W : Type 0} (took : W → List ℕ → W → Type 0) where
  -- what was written before the last call, by another name for it, and by the last call
  pub writes_then : {w : W} {a : List ℕ} {v : W} (prefix b : List ℕ) (u : W) (result : Result (Unit {0}) Error) → a ≡ prefix
      → WritesInCalls took w a v → OnOk result (WritesInCalls took v b u) → OnOk result (WritesInCalls took w (prefix ++ b) u)
  writes_then {w = w} {v = v} prefix b u (Ok done) same p q = writes_append took w prefix v b u (subst (λ (t : List ℕ). WritesInCalls took w t v) same p) q
  writes_then prefix b u (Err e) same p q = tt

  -- the same text by another name
  pub writes_same : (w v : W) (a b : List ℕ) (result : Result (Unit {0}) Error) → a ≡ b → OnOk result (WritesInCalls took w a v) → OnOk result (WritesInCalls took w b v)
  writes_same w v a b (Ok done) same p = subst (λ (t : List ℕ). WritesInCalls took w t v) same p
  writes_same w v a b (Err e) same p = tt
