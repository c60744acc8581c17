-- The bytes of a GUID in the order of its text.
use Rattle.std.proofs.Common.{◌≡◌, ℕ, List, [], ◌∷◌, length, Result, Ok, Err, IfOk, Some, refl, ◌∙◌, ap, arith}
use Rattle.uuid.specs.Parts.{swap_fields}
use Rattle.uuid.specs.Text.{parsed}
use Rattle.heap_entries.specs.GuidText.{as_read}

-- `uuid` reverses the same bytes
pub swapped_is : (guid : List ℕ) → length guid ≡ 16 → swap_fields guid ≡ as_read guid
swapped_is (a ∷ b ∷ c ∷ d ∷ e ∷ f ∷ g ∷ h ∷ i ∷ j ∷ k ∷ l ∷ m ∷ n ∷ o ∷ p ∷ []) len = refl
swapped_is _ len = absurd (omega arith)

-- a copy of a text has the same bytes, and parses to the same result
pub copy_is : {T E : Type 0} (bytes_of : T → List ℕ) (copied : Result T E) (text encoded : List ℕ) → IfOk copied (λ t. bytes_of t ≡ text) → text ≡ encoded → IfOk copied (λ t. bytes_of t ≡ encoded)
copy_is bytes_of (Ok t) text encoded same is = same ∙ is
copy_is bytes_of (Err e) text encoded same is = tt

pub copy_parses : {T E : Type 0} (bytes_of : T → List ℕ) (copied : Result T E) (text guid : List ℕ) → IfOk copied (λ t. bytes_of t ≡ text) → parsed text ≡ Some guid → IfOk copied (λ t. parsed (bytes_of t) ≡ Some guid)
copy_parses bytes_of (Ok t) text guid same is = ap parsed same ∙ is
copy_parses bytes_of (Err e) text guid same is = tt
