-- The plan of a file with another root: what it borrows, and the slot of the root.
use Rattle.std.specs.Prelude.{◌≡◌, ℕ, ◌+◌, ◌<◌, List, length}
use Rattle.pe.specs.Headers.{image_of}
use Rattle.cli_header.specs.declared.header.CliHeader.{CliHeader}
use Rattle.cli_header.specs.Said.{header_of}
use Rattle.file_ranges.specs.Fields.{number_at, certificate_offset}
use Rattle.metadata.specs.SourceAt.{source_of}
use Rattle.metadata.specs.Streams.{root_in}
use Rattle.opening.specs.Views.{HasModel}
use Rattle.embedding.specs.declared.slot.Slot.{Slot}
use Rattle.embedding.specs.declared.slot.Target.{Target}
use Rattle.embedding.specs.declared.slots.Opened.{Opened}
use Rattle.embedding.specs.declared.plan.EmbedPlan.TheInside.{Inside}
use Rattle.embedding.specs.declared.strong_name.StrongName.{StrongName}
use Rattle.embedding.specs.declared.strong_name.StrongName.TheVariants.{Keep, Clear}
use Rattle.embedding.specs.Embedded.{IsHeaderOf, AreHeadersApart, embedded}
use Rattle.embedding.specs.Matching.{LeadsAlike}
use Rattle.embedding.specs.Slots.{target_of, FitsAt}

-- a file, its CLI header, another root, and the slot of that
pub record Planned : Type 0 where
  pub strong_name : StrongName
  pub file : List ℕ
  pub root : List ℕ
  pub header : CliHeader
  pub slot : Slot

abbrev pub shown_plan : Inside → Planned
shown_plan plan = record {
  strong_name = plan.strong_name;
  file = plan.headers;
  root = plan.root.now;
  header = plan.header;
  slot = plan.slot;
}

-- the numbers of its slot
abbrev pub target_in : Planned → Target
target_in plan = target_of plan.file plan.header (length plan.root) plan.slot

-- the result of a plan
abbrev pub result_of : Planned → List ℕ
result_of plan = embedded plan.strong_name plan.file plan.root plan.header plan.slot

-- the plan of this file and this root
abbrev pub IsPlanOf : StrongName → List ℕ → List ℕ → Planned → Type 0
IsPlanOf strong_name file root plan = (plan.strong_name ≡ strong_name) × (plan.file ≡ file) × (plan.root ≡ root)

-- the result has the strong name of the file, whose hash is no longer right (II.25.3.3)
abbrev pub HasStaleName : StrongName → List ℕ → Type 0
HasStaleName Keep file = 0 < (header_of (image_of file)).strong_name_signature.size
HasStaleName Clear file = ⊥

-- the file has a certificate (II.25.2.3.3)
abbrev pub HasCertificate : List ℕ → Type 0
HasCertificate file = 0 < number_at file (certificate_offset file + 4)

-- the file is open: its image, its CLI header and its metadata
pub record IsOpened (file : List ℕ) (opened : Opened) : Type 0 where
  pub image : opened.image ≡ image_of file
  pub headers : opened.headers ≡ file
  pub header : IsHeaderOf file opened.header
  pub view : opened.view ≡ root_in file opened.header

-- the root has a model, leads into the file, and fits at the slot
pub record IsPlanned (plan : Planned) : Type 0 where
  pub header : IsHeaderOf plan.file plan.header
  pub apart : AreHeadersApart plan.file plan.header
  pub fits : FitsAt plan.file (length plan.root) plan.header (source_of (root_in plan.file plan.header)) plan.slot
  pub leads : LeadsAlike plan.root (root_in plan.file plan.header)
  pub model : HasModel plan.root

-- the fields of a plan belong together, and its numbers are those of its slot
pub record IsPlan (plan : Inside) : Type 0 where
  pub planned : IsPlanned (shown_plan plan)
  pub target : plan.target ≡ target_in (shown_plan plan)
