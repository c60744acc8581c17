-- The length of a canonical root is the sum of the lengths of its headers and its streams.
use Rattle.writer.proofs.Prelude.{◌≡◌, ℕ, ◌+◌, ◌-◌, ◌%◌, ◌<◌, ◌≤◌, inl, inr, cond, ltb, List, [], ◌∷◌, ◌++◌, length, filter, replicate, refl, sym, ap, subst, ◌∙◌, length-append, arith, sum_by, flat_map, cases_Bool, ltb-false, sum_by-cons, Kind, Tables, Strings, UserStrings, Guids, Blobs, zero_padded, Metadata, canonical, stream, held, heading, kinds_in_order}
use Rattle.std.proofs.lemmas.List.{length-replicate}

-- streams without bytes add nothing
pub held_sum : (size : Kind → ℕ) (kinds : List Kind) → sum_by size (filter (λ kind. ltb 0 (size kind)) kinds) ≡ sum_by size kinds
held_sum size [] = refl
held_sum size (kind ∷ kinds) =
    let tail = filter (λ kind. ltb 0 (size kind)) kinds in
    elim (cases_Bool (ltb 0 (size kind))) [
      | inl some ↦ subst (λ b. sum_by size (cond b (kind ∷ tail) tail) ≡ sum_by size (kind ∷ kinds)) (sym some)
          (omega (arith, sum_by-cons size kind tail, sum_by-cons size kind kinds, held_sum size kinds))
      | inr none ↦ subst (λ b. sum_by size (cond b (kind ∷ tail) tail) ≡ sum_by size (kind ∷ kinds)) (sym none)
          (omega (arith, ltb-false 0 (size kind) none, sum_by-cons size kind kinds, held_sum size kinds))
    ]

pub five_sum : (size : Kind → ℕ) → sum_by size (held size) ≡ size Tables + (size Strings + (size UserStrings + (size Guids + size Blobs)))
five_sum size =
    let blobs = sum_by-cons size Blobs [] in
    let guids = sum_by-cons size Guids (Blobs ∷ []) in
    let user_strings = sum_by-cons size UserStrings (Guids ∷ Blobs ∷ []) in
    let strings = sum_by-cons size Strings (UserStrings ∷ Guids ∷ Blobs ∷ []) in
    let all = sum_by-cons size Tables (Strings ∷ UserStrings ∷ Guids ∷ Blobs ∷ []) in
    let none : sum_by size [] ≡ 0 = refl in
    held_sum size kinds_in_order ∙ omega (arith, blobs, guids, user_strings, strings, all, none)

length-streams : (streams : Kind → List ℕ) (size : Kind → ℕ) → ((kind : Kind) → size kind ≡ length (streams kind)) → (kinds : List Kind)
    → length (flat_map streams kinds) ≡ sum_by size kinds
length-streams streams size same [] = refl
length-streams streams size same (kind ∷ kinds) =
    omega (arith, length-append (streams kind) (flat_map streams kinds), same kind, length-streams streams size same kinds, sum_by-cons size kind kinds)

-- a canonical root is its headers followed by the streams that have bytes
abbrev pub ArePut : Type 0
ArePut = (model : Metadata) (size : Kind → ℕ) → ((kind : Kind) → size kind ≡ length (stream model kind))
    → canonical model ≡ heading model.version size (held size) ++ flat_map (stream model) (held size)

pub root_long : ArePut → (model : Metadata) (size : Kind → ℕ) → ((kind : Kind) → size kind ≡ length (stream model kind))
    → length (canonical model) ≡ length (heading model.version size (held size)) + sum_by size (held size)
root_long put model size same =
    let before = heading model.version size (held size) in
    omega (arith, ap length (put model size same), length-append before (flat_map (stream model) (held size)), length-streams (stream model) size same (held size))

one_of_five : (size : Kind → ℕ) (kind : Kind) → size kind ≤ size Tables + (size Strings + (size UserStrings + (size Guids + size Blobs)))
one_of_five size Tables = omega arith
one_of_five size _ = omega arith

pub within : ArePut → (model : Metadata) (kind : Kind) → length (stream model kind) ≤ length (canonical model)
within put model kind =
    let size = λ (kind : Kind). length (stream model kind) in
    omega (arith, root_long put model size (λ kind. refl), five_sum size, one_of_five size kind)

pub padding_adds : (bytes : List ℕ) → length bytes ≤ length (zero_padded bytes)
padding_adds bytes = omega (arith, length-append bytes (replicate ((4 - length bytes % 4) % 4) 0))

-- if a heap without padding exceeds a limit, the root exceeds it
pub over : ArePut → (model : Metadata) (kind : Kind) (heap : List ℕ) (limit : ℕ) → length (stream model kind) ≡ length (zero_padded heap) → limit < length heap
    → limit < length (canonical model)
over put model kind heap limit is more = omega (arith, within put model kind, is, padding_adds heap, more)

pub length-zero_padded : (bytes : List ℕ) (len : ℕ) → length bytes ≡ len → len + (4 - len % 4) % 4 ≡ length (zero_padded bytes)
length-zero_padded bytes len is =
    ap (λ n. n + (4 - n % 4) % 4) (sym is)
    ∙ omega (arith, length-append bytes (replicate ((4 - length bytes % 4) % 4) 0), length-replicate {A = ℕ} ((4 - length bytes % 4) % 4) 0)
