-- Why a root was not put into a file.
use Rattle.std.specs.Prelude.{ℕ, ◌<◌, ◌≤◌, List, length}
use Rattle.packed.specs.Limit.{byte_limit}
use Rattle.packed.specs.declared.fault.Fault.{Fault}
use Rattle.pe.specs.Headers.{image_of}
use Rattle.cli_header.specs.declared.header.CliHeader.{CliHeader}
use Rattle.cli_header.specs.Said.{header_of}
use Rattle.metadata.specs.Source.{Source}
use Rattle.metadata.specs.SourceAt.{source_of}
use Rattle.metadata.specs.Streams.{root_in}
use Rattle.opening.specs.Views.{HasImage, HasModel}
use Rattle.embedding.specs.declared.error.EmbedError.{EmbedError}
use Rattle.embedding.specs.declared.error.EmbedError.TheVariants as error
use Rattle.embedding.specs.declared.slot.Slot.{Slot}
use Rattle.embedding.specs.Embedded.{AreHeadersApart}
use Rattle.embedding.specs.Matching.{LeadsAlike}
use Rattle.embedding.specs.Slots.{target_of, FitsAt, FitsOldRange, IsSlot}

-- what holds of the fault of the file, and of that of the root; of any other reason nothing is said
abbrev pub MatchFault : (Fault → Type 0) → (Fault → Type 0) → EmbedError → Type 0
MatchFault file root (error.File fault) = file fault
MatchFault file root (error.Root fault) = root fault
MatchFault file root _ = Unit {0}

-- the reason is no fault
abbrev pub IsNoFault : EmbedError → Type 0
IsNoFault = MatchFault (λ _. ⊥) (λ _. ⊥)

-- Why a root of `len` bytes fits at no slot of a file: it is not longer than the old one, whose range has something else in
-- it; it is longer, and no slot has room for it; or the slot makes the result too long.
abbrev pub IsMisfit : List ℕ → ℕ → CliHeader → Source → EmbedError → Type 0
IsMisfit file len header source error.Occupied = (len ≤ header.metadata.size) × ¬ FitsOldRange file len header source
IsMisfit file len header source error.NoRoom = (header.metadata.size < len) × ((slot : Slot) → ¬ FitsAt file len header source slot)
IsMisfit file len header source error.TooLong =
    (slot : Slot) × IsSlot file len header source slot × (byte_limit < (target_of file header len slot).len)
IsMisfit file len header source _ = ⊥

-- the file opens, and the root has a model
abbrev pub AreOpen : List ℕ → List ℕ → Type 0
AreOpen file root = HasImage file (header_of (image_of file)) × HasModel root

-- The reason why a root is not put into a file. The root has a fault only if the file opens, and any other reason is one of
-- a file that opens and of a root that has a model. Which faults they have is said by the rules.
abbrev pub IsReason : List ℕ → List ℕ → EmbedError → Type 0
IsReason file root (error.File fault) = Unit {0}
IsReason file root (error.Root fault) = HasImage file (header_of (image_of file))
IsReason file root error.Memory = ⊥
IsReason file root error.Unlike = AreOpen file root × ¬ LeadsAlike root (root_in file (header_of (image_of file)))
IsReason file root error.Headers = AreOpen file root × ¬ AreHeadersApart file (header_of (image_of file))
IsReason file root reason =
    let header = header_of (image_of file) in
    AreOpen file root × IsMisfit file (length root) header (source_of (root_in file header)) reason
