-- The offsets of stream headers (ECMA-335 II.24.2.2).
use Rattle.cli_regions.proofs.Prelude.{ℕ, ◌+◌, ◌≤◌, List, [], ◌∷◌, ◌++◌, length, ap, arith, length-append, All, All-cons, All-nil, Header, root_read}
use Rattle.root.specs.Root.{AreHeaders, IsRoot}

-- the header begins at or before an offset
abbrev pub BeginsBy : ℕ → Header → Type 0
BeginsBy limit header = header.place ≤ limit

headers_begin : (limit position : ℕ) (bytes : List ℕ) (headers : List Header) → position + length bytes ≤ limit → AreHeaders position bytes headers → All (BeginsBy limit) headers
headers_begin limit position bytes [] within are = All-nil (BeginsBy limit)
headers_begin limit position bytes (header ∷ headers) within are =
    let whole = simp length-append at (ap length are.2) in
    All-cons (BeginsBy limit) header headers (omega (arith, are.3)) (headers_begin limit (position + length are.0) are.1 headers (omega (arith, whole)) are.5)

pub root_headers_begin : (root : List ℕ) → (length root ≤ 0x40000000) × IsRoot root (root_read root).version (root_read root).headers
    → All (λ header. header.place ≤ 0x40000000) (root_read root).headers
root_headers_begin root rooted =
    let is = rooted.1 in
    let whole = simp length-append at (ap length is.whole) in
    headers_begin 0x40000000 (20 + length ((root_read root).version ++ 0 ∷ is.padding)) is.directory (root_read root).headers
    (simp length-append (omega (arith, whole, rooted.0, is.ignored_long, is.version_long.long, is.flags_long, is.count.long))) is.headers_are
