-- Why a root fits at no slot.
use Rattle.embedding.proofs.Prelude.{◌≡◌, ◌<◌, ◌≤◌, ◌^◌, ◌⊎◌, inl, inr, ℕ, List, length, sym, ◌∙◌, arith, image_of, CliHeader, header_of, Source, source_of, root_in, EmbedError, Slot, Reused, Appended, Extended, HasImage, HasModel, IsHeaderOf, AreOpen, IsMisfit, IsReason, FitsAt, HasRoom, IsLongerSection, IsNewSection, IsSlot, IsInRange, target_of}
use Rattle.embedding.specs.declared.error.EmbedError.TheVariants as error

-- a new section would be too far
pub no_new_section : (file : List ℕ) (len : ℕ) (header : CliHeader) (source : Source) → header.metadata.size < len → HasRoom file header
    → ((address offset : ℕ) → IsNewSection file address offset → (2 ^ 32 ≤ address) ⊎ (2 ^ 32 ≤ offset))
    → (slot : Slot) → ¬ FitsAt file len header source slot
no_new_section file len header source longer room far Reused fits = omega (arith, fits.is_slot.short)
no_new_section file len header source longer room far (Appended address offset) fits =
    elim (far address offset fits.is_slot.2) as (λ _. ⊥) [
      | inl h ↦ omega (arith, fits.address)
      | inr h ↦ omega (arith, fits.in_range.result)
    ]
no_new_section file len header source longer room far (Extended within) fits = fits.is_slot.1 room

-- the last section cannot be longer, or the root would be too far in it
pub no_longer_section : (file : List ℕ) (len : ℕ) (header : CliHeader) (source : Source) → header.metadata.size < len → ¬ HasRoom file header
    → ((within : ℕ) → IsLongerSection file header within → 2 ^ 32 ≤ within)
    → (slot : Slot) → ¬ FitsAt file len header source slot
no_longer_section file len header source longer none far Reused fits = omega (arith, fits.is_slot.short)
no_longer_section file len header source longer none far (Appended address offset) fits = none fits.is_slot.1
no_longer_section file len header source longer none far (Extended within) fits = omega (arith, fits.address, far within fits.is_slot.2)

-- there is one slot, and its numbers are out of range
pub out_of_range : (file : List ℕ) (len : ℕ) (header : CliHeader) (source : Source) (slot : Slot) → header.metadata.size < len → IsSlot file len header source slot
    → ¬ IsInRange file len (target_of file header len slot) → (other : Slot) → ¬ FitsAt file len header source other
out_of_range file len header source Reused longer is out other fits = omega (arith, longer, is.short)
out_of_range file len header source (Appended address offset) longer is out Reused fits = omega (arith, longer, fits.is_slot.short)
out_of_range file len header source (Appended address offset) longer is out (Appended at start) fits =
    let same_address : at ≡ address = fits.is_slot.2.address_is ∙ sym is.2.address_is in
    let same_offset : start ≡ offset = fits.is_slot.2.offset_is ∙ sym is.2.offset_is in
    out (rw (same_address, same_offset) at fits.in_range)
out_of_range file len header source (Appended address offset) longer is out (Extended within) fits = fits.is_slot.1 is.1
out_of_range file len header source (Extended within) longer is out Reused fits = omega (arith, longer, fits.is_slot.short)
out_of_range file len header source (Extended within) longer is out (Appended address offset) fits = is.1 fits.is_slot.1
out_of_range file len header source (Extended within) longer is out (Extended at) fits =
    let same : at ≡ within = fits.is_slot.2.within_is ∙ sym is.2.within_is in
    out (rw same at fits.in_range)

-- a file whose header was read opens with the header of its bytes
pub opens_by : (file : List ℕ) (header : CliHeader) → IsHeaderOf file header → HasImage file (header_of (image_of file))
opens_by file header of = rw of.header_is at of.model

reasons : (file root : List ℕ) (reason : EmbedError) → AreOpen file root
    → IsMisfit file (length root) (header_of (image_of file)) (source_of (root_in file (header_of (image_of file)))) reason → IsReason file root reason
reasons file root error.Occupied both is = (both, is)
reasons file root error.NoRoom both is = (both, is)
reasons file root error.TooLong both is = (both, is)
reasons file root error.Memory both none = none
reasons file root _ both none = absurd none

-- a misfit is the reason why the root is not put into the file
pub misfit_is_reason : (file root view : List ℕ) (header : CliHeader) → IsHeaderOf file header → view ≡ root_in file header → HasModel root
    → (reason : EmbedError) → IsMisfit file (length root) header (source_of view) reason → IsReason file root reason
misfit_is_reason file root view header of view_is has reason misfit =
    reasons file root reason (opens_by file header of, has) (rw (view_is, of.header_is) at misfit)
