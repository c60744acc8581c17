-- The values of a pool.
use Rattle.heap_pools.proofs.Prelude.{◌≡◌, ℕ, ◌<◌, true, false, List, [], ◌∷◌, ◌++◌, length, refl, arith, is_among, pooled}

-- adding a value that is there keeps the entries; a new value is appended
pub pooled_there : (entries : List (List ℕ)) (value : List ℕ) → is_among entries value ≡ true → pooled entries value ≡ entries
pooled_there entries [] there = refl
pooled_there entries (byte ∷ bytes) there = rw there refl

pub pooled_new : (entries : List (List ℕ)) (value : List ℕ) → 0 < length value → is_among entries value ≡ false → pooled entries value ≡ entries ++ value ∷ []
pooled_new entries [] some new = absurd (omega arith)
pooled_new entries (byte ∷ bytes) some new = rw new refl
