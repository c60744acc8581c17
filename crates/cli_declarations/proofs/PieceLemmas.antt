-- What was appended.
use Rattle.cli_declarations.proofs.Prelude.{◌≡◌, ℕ, List, ◌++◌, OnOk, Result, Ok, Err, refl, string_bytes, IsOk, WritesInCalls, cut_text, Begins, Declared, Ends, Gains}
use Rattle.cli_declarations.proofs.TextLemmas.{Takes, cut}

pub on_ok : {T E P Q : Type 0} (result : Result T E) → OnOk result P → (P → Q) → OnOk result Q
on_ok (Ok done) is f = f is
on_ok (Err error) is f = tt

-- what was written holds if it was written
pub was_ok : {T E P : Type 0} (written : Result T E) → IsOk written → OnOk written P → P
was_ok (Ok done) ok is = is
was_ok (Err error) ok is = absurd cc

module _ {T U E F : Type 0} (old begun out new : Declared) (written : Result T E) (result : Result U F) (begins : Begins old begun) (ends : OnOk result (IsOk written × Ends out new)) where
  pub text_gained : (text : List ℕ) → OnOk written (WritesInCalls Takes begun text out) → OnOk result (string_bytes new.text ≡ string_bytes old.text ++ cut_text text)
  text_gained text wrote = on_ok result ends (λ e. cut old begun out new text begins (was_ok written e.0 wrote) e.1)

  pub some_gained : (Is : List ℕ → Type 0) → OnOk written ((text : List ℕ) × Is text × WritesInCalls Takes begun text out)
      → OnOk result (Gains (λ whole. (text : List ℕ) × Is text × (whole ≡ cut_text text)) old new)
  some_gained Is wrote = on_ok result ends (λ e. let it = was_ok written e.0 wrote in (cut_text it.0, (it.0, it.1, refl), cut old begun out new it.0 begins it.2 e.1))
