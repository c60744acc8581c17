-- The bytes of a canonical root.
use Rattle.clim_c.proofs.Prelude.{◌≡◌, ℕ, ◌<◌, ◌≤◌, ◌⊎◌, inl, inr, length, arith, Metadata, canonical, root_of}

-- a root begins with its signature (II.24.2.1)
pub has_bytes : (model : Metadata) → 0 < length (canonical model)
unfolding root_of
has_bytes model = omega arith

-- a length within a limit says that there is a root
pub says_root : {A : Type 0} (count limit : ℕ) → 0 < count → count ≤ limit → (count ≡ 0) ⊎ (limit < count) → A
says_root count limit some within (inl none) = absurd (omega (arith, some, none))
says_root count limit some within (inr more) = absurd (omega (arith, within, more))
