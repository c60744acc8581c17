-- The rows that a C caller names by their tokens (III.1.9).
use Rattle.std.specs.Prelude.{◌≡◌, ℕ, true}
use Rattle.table_schema.specs.declared.token.Token.{Token}
use Rattle.c_texts.specs.RowTexts.{IsTokenIn}
use Rattle.clim_c.specs.declared.view.ClimView.{ClimView}

-- the view is open, and the number is the token of a row of its root
abbrev pub IsOpenRow : ClimView → ℕ → Token → Type 0
IsOpenRow view number token = (view.is_open ≡ true) × IsTokenIn view.root.now number token
