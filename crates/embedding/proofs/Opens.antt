-- The faults of a file, and its CLI header.
use Rattle.embedding.proofs.Prelude.{◌≡◌, List, ℕ, Result, Ok, Err, IfErr, ◌++◌, sym, ap, ◌∙◌, ∥∥₁_elim, ∥∥₁_map, Coded-set, coded_list, coded_ℕ, Rule, AllHold, FirstBroken, image_of, Image, IsImage, rules_of_image, CliHeader, IsCliHeader, rules_of_cli_header, header_of, rules_of_file, rules_of_metadata, rules_of_entry_point, root_in, source_of, HasImage, EmbedError, MatchFault, IsNoFault}
use Rattle.packed.specs.declared.fault.Fault.{Fault}
use Rattle.packed.proofs.RuleLemmas.{fails_prefix, fails_back}
use Rattle.embedding.specs.declared.error.EmbedError.TheVariants as error

-- the rules for a file that come after those for its headers
later_rules : List ℕ → List (Rule Fault)
later_rules file =
    rules_of_metadata (header_of (image_of file)).root.start (root_in file (header_of (image_of file)))
    ++ rules_of_entry_point (header_of (image_of file)) (source_of (root_in file (header_of (image_of file))))

pub image_fails : (file : List ℕ) (found : Fault) → FirstBroken (rules_of_image file) found → FirstBroken (rules_of_file file) found
unfolding rules_of_file later_rules
image_fails file found fails = fails_prefix (rules_of_image file) (rules_of_cli_header (image_of file) ++ later_rules file) found fails

pub header_fails : (file : List ℕ) (found : Fault) → AllHold (rules_of_image file) → FirstBroken (rules_of_cli_header (image_of file)) found
    → FirstBroken (rules_of_file file) found
unfolding rules_of_file later_rules
header_fails file found all fails =
    fails_back (rules_of_image file) (rules_of_cli_header (image_of file) ++ later_rules file) found all
    (fails_prefix (rules_of_cli_header (image_of file)) (later_rules file) found fails)

-- a file that has a model has it by the CLI header of its bytes
pub same_root : (file : List ℕ) (header : CliHeader) → ((image : Image) → IsImage file image → image ≡ image_of file)
    → ((image : Image) → IsCliHeader image header → header ≡ header_of image) → HasImage file header
    → root_in file header ≡ root_in file (header_of (image_of file))
same_root file header images headers has =
    ∥∥₁_elim has (Coded-set (coded_list coded_ℕ) (root_in file header) (root_in file (header_of (image_of file)))) (λ some.
    ap (root_in file) (headers some.1.image some.1.is_header ∙ ap header_of (images some.1.image some.1.is_image)))

-- the header of a file that opens is that of its bytes
pub opens_with : (file : List ℕ) (header other : CliHeader) → ((image : Image) → IsImage file image → image ≡ image_of file)
    → ((image : Image) (found : CliHeader) → IsCliHeader image found → found ≡ header_of image) → other ≡ header_of (image_of file)
    → HasImage file header → HasImage file other
opens_with file header other images headers is has = ∥∥₁_map has (λ some.
    let same : header ≡ other = headers some.1.image header some.1.is_header ∙ ap header_of (images some.1.image some.1.is_image) ∙ sym is in
    (some.0, rw same at some.1))

-- a reason that is no fault
pub no_fault : {T : Type 0} (result : Result T EmbedError) (P Q : Fault → Type 0) → IfErr result IsNoFault → IfErr result (MatchFault P Q)
no_fault (Ok value) P Q none = tt
no_fault (Err (error.File fault)) P Q none = absurd none
no_fault (Err (error.Root fault)) P Q none = absurd none
no_fault (Err _) P Q none = tt
