-- The first section that has all of the metadata.
use Rattle.file_ranges.proofs.Prelude.{◌≡◌, ◌<◌, ℕ, List, ap, sym, ◌∙◌, arith, CliHeader, virtual_address, IsLowest}

-- there is one at most
pub one_lowest : (header : CliHeader) (file : List ℕ) (lowest other : ℕ) → IsLowest header file lowest → IsLowest header file other → lowest ≡ other
one_lowest header file lowest other is that =
    let not_before : ¬ (is.index < that.index) = λ before. that.first is.index before is.has in
    let not_after : ¬ (that.index < is.index) = λ after. is.first that.index after that.has in
    let same : is.index ≡ that.index = omega (arith, not_before, not_after) in
    is.address ∙ ap (virtual_address file) same ∙ sym that.address
