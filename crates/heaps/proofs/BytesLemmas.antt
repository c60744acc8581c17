-- The first byte of a heap, and bytes that are appended.
use Rattle.heaps.proofs.Prelude.{◌≡◌, ◌≤◌, ℕ, max, List, [], ◌∷◌, ◌++◌, length, take, Result, Ok, Err, OnErr, refl, sym, ap, ◌∙◌, arith, length-append, begun}
use Rattle.std.proofs.lemmas.List.{take_at, take-take}

pub length-begun : (heap : List ℕ) → length (begun heap) ≡ max (length heap) 1
length-begun [] = refl
length-begun (byte ∷ bytes) = omega arith

begun-longer : (heap : List ℕ) → length heap ≤ length (begun heap)
begun-longer [] = omega arith
begun-longer (byte ∷ bytes) = omega arith

-- the old bytes of the heap are a prefix, whatever is appended
pub take_begun : (heap tail : List ℕ) → take (length heap) (begun heap ++ tail) ≡ heap
take_begun [] tail = refl
take_begun (byte ∷ bytes) tail = take_at (byte ∷ bytes) tail (length (byte ∷ bytes)) refl

-- the old bytes of the heap are a prefix also if a longer prefix is kept
pub take_shorter : (heap middle new : List ℕ) (len n : ℕ) → len ≡ length heap → n ≡ length (begun heap ++ middle) → take n new ≡ begun heap ++ middle → take len new ≡ heap
take_shorter heap middle new len n short long same =
    let fewer : length heap ≤ n = omega (arith, length-append (begun heap) middle, begun-longer heap) in
    ap (λ k. take k new) short ∙ sym (take-take (length heap) n new fewer) ∙ ap (take (length heap)) same ∙ take_begun heap middle

-- a fact also holds of a result that is an error
pub on_err : {X E : Type 0} (r : Result X E) (P : Type 0) → P → OnErr r P
on_err (Ok x) P holds = tt
on_err (Err e) P holds = holds
