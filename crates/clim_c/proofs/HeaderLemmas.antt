-- The number of stream headers of a root.
use Rattle.clim_c.proofs.Prelude.{◌≡◌, ℕ, zero, suc, ◌+◌, ◌<◌, ◌≤◌, List, [], ◌∷◌, length, slice_get, None, ap, arith, length-append, Header}
use Rattle.root.specs.Root.{IsRoot, AreHeaders}

-- each header has some bytes
few_in : (offset : ℕ) (bytes : List ℕ) (headers : List Header) → AreHeaders offset bytes headers → length headers ≤ length bytes
few_in offset bytes [] are = omega arith
few_in offset bytes (header ∷ headers) are =
    let (first, tail, whole, at, is, left) = are in
    let more = few_in (offset + length first) tail headers left in
    let long = length-append first tail in
    let some = simp length-append at (ap length is.whole) in
    omega (arith, more, long, some, ap length whole, is.offset.long)

pub few_headers : (root version : List ℕ) (headers : List Header) → IsRoot root version headers → length headers ≤ length root
few_headers root version headers is =
    let within = few_in _ is.directory headers is.headers_are in
    omega (arith, within, simp length-append at (ap length is.whole))

-- there is a header at each index below their number
pub there_is : (headers : List Header) (index : ℕ) → index < length headers → slice_get headers index ≡ None → ⊥
there_is [] index within none = omega (arith, within)
there_is (header ∷ headers) zero within none = cc
there_is (header ∷ headers) (suc index) within none = there_is headers index (omega (arith, within)) none
