use Rattle.cli_regions.proofs.Prelude.{◌≡◌, ◌+◌, ℕ, Option, None, Some, List, [], append-nil, cond-false, false_from_ne_true, le-leb, leb-true, length, nat_le, refl, sym, adds_none, said_as, named_at, named_regions}
use Rattle.pe.specs.Image.{Image}
use Rattle.pe.specs.Offset.{IsFileOffset, offset_at}
use Rattle.cli_header.specs.declared.header.DataDirectory.{DataDirectory}
use Rattle.cli_regions.proofs.files.find_named.Goals as goal

-- the file has not the bytes
missing : (image : Image) (what : List ℕ) (of : DataDirectory) (found : Option ℕ) → offset_at image of.rva of.size ≡ found
    → ((offset : ℕ) → IsFileOffset image of.rva of.size offset → ⊥) → named_at image what of found ≡ []
missing image what of None is none = refl
missing image what of (Some offset) is none =
    let within = nat_le (offset + of.size) (length image.bytes) in
    cond-false within _ _ (false_from_ne_true within (λ b. none offset (record { first = is; within = leb-true (offset + of.size) (length image.bytes) b })))

pub returns-in-Some : goal.returns-in-Some
unfolding named_regions
returns-in-Some c =
    let is = c.in-Some.ensures.sound.0 in
    rw (is.first, le-leb (c.in-Some.range.start + c.args.directory.size) (length c.args.pe.now.bytes) is.within) (rw (append-nil c.args.what.now) at c.look.ensures)

pub returns-in_default : goal.returns-in_default
unfolding named_regions
returns-in_default c = said_as (adds_none c.args.found.now) (sym (missing c.args.pe.now c.args.what.now c.args.directory _ refl c.in_default.ensures.complete))
