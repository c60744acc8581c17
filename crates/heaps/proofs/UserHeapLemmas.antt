-- The heap of user strings, its lengths and its padding.
use Rattle.heaps.proofs.Prelude.{◌≡◌, ℕ, zero, suc, ◌+◌, ◌-◌, ◌%◌, ◌^◌, ◌<◌, ◌≤◌, max, List, [], ◌∷◌, ◌++◌, length, take, flat_map, replicate, Some, refl, sym, ap, subst, inr, arith, length-append, append_assoc, IsPacked, short_unsigned, IsUserString, zero_padded, begun, unit_bytes, last_byte, user_length, user_entry}
use Rattle.heap_pools.proofs.FoundLemmas.{short_packed}
use Rattle.heap_entries.proofs.UserLemmas.{length-user}
use Rattle.heaps.proofs.BytesLemmas.{length-begun}

pub length-user_entry : (units : List ℕ) → length (user_entry units) ≡ length (short_unsigned (user_length units)) + user_length units
unfolding user_entry
length-user_entry units =
    omega (arith, length-append (short_unsigned (user_length units)) (flat_map unit_bytes units ++ last_byte units ∷ []), length-user units (last_byte units))

-- the offset of a pushed user string, and the length of the heap with it
pub pushed_lengths : (bytes heap units : List ℕ) (len start used : ℕ) → len ≡ length bytes → start ≡ max len 1 → begun bytes ≡ heap → used ≡ length (short_unsigned (user_length units))
    → (start ≡ length heap) × (length (heap ++ user_entry units) ≡ start + (used + user_length units))
pushed_lengths bytes heap units len start used long at is counts =
    let entry = length-user_entry units in
    let first = length-begun bytes in
    let same = ap length is in
    let both = length-append heap (user_entry units) in
    (omega arith, omega arith)

pub take_zeros : (k : ℕ) → k ≤ 4 → take {A = ℕ} k (0 ∷ 0 ∷ 0 ∷ 0 ∷ []) ≡ replicate {A = ℕ} k 0
take_zeros zero h = refl
take_zeros (suc zero) h = refl
take_zeros (suc (suc zero)) h = refl
take_zeros (suc (suc (suc zero))) h = refl
take_zeros (suc (suc (suc (suc zero)))) h = refl
take_zeros (suc (suc (suc (suc (suc k))))) h = absurd (omega arith)

-- zeros up to the next multiple of four
pub padded_is : (bytes : List ℕ) (n : ℕ) → max (length bytes) 1 ≤ n → n < max (length bytes) 1 + 4 → n % 4 ≡ 0 → bytes ++ replicate {A = ℕ} (n - length bytes) 0 ≡ zero_padded (begun bytes)
padded_is [] n low high multiple = let four : n ≡ 4 = omega arith in rw four refl
padded_is (byte ∷ bytes) n low high multiple =
    let padding : n - length (byte ∷ bytes) ≡ (4 - length (byte ∷ bytes) % 4) % 4 = omega arith in
    ap (λ k. (byte ∷ bytes) ++ replicate {A = ℕ} k 0) padding

-- a pushed user string is found at its offset
pub user_string_found : (heap units tail : List ℕ) → 0 < length heap → user_length units < 2 ^ 29 → IsUserString (heap ++ (user_entry units ++ tail)) (length heap) (record { units = units; flag = Some (last_byte units) })
unfolding user_entry
user_string_found heap units tail some short =
    let blob = flat_map unit_bytes units ++ last_byte units ∷ [] in
    let long : length blob ≡ user_length units = length-user units (last_byte units) in
    record {
      blob = blob;
      stands = inr (
        some,
        record {
          before = heap;
          count = short_unsigned (user_length units);
          after = tail;
          whole = ap (λ (l : List ℕ). heap ++ l) (append_assoc (short_unsigned (user_length units)) blob tail);
          at = refl;
          counts = subst (λ n. IsPacked n (short_unsigned (user_length units))) (sym long) (short_packed (user_length units) short);
        },
      );
      encodes = inr (units, last_byte units, refl, refl);
    }
