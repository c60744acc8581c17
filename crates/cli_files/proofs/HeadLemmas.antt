-- The rules for the headers of a file.
use Rattle.std.proofs.Common.{List, ◌++◌, ℕ}
use Rattle.packed.specs.declared.fault.Fault.{Fault}
use Rattle.packed.specs.Rule.{Rule, AllHold, rebased}
use Rattle.packed.proofs.RuleLemmas.{all_prefix, all_back, all_lowered}
use Rattle.pe.specs.Headers.{image_of}
use Rattle.pe.specs.Rules.{rules_of_image}
use Rattle.cli_header.specs.Rules.{rules_of_cli_header}
use Rattle.cli_header.specs.Said.{header_of}
use Rattle.root.specs.Rules.{rules_of_root}
use Rattle.metadata.specs.Streams.{root_in}
use Rattle.opening.specs.Heads.{rules_of_heads as rules_of_file_heads}

-- they are the rules for its image, for its CLI header and for the root that this names
pub heads_hold : (file : List ℕ) → AllHold (rules_of_file_heads file)
    → AllHold (rules_of_image file) × AllHold (rules_of_cli_header (image_of file)) × AllHold (rules_of_root (root_in file (header_of (image_of file))))
unfolding rules_of_file_heads
heads_hold file all =
    let of_header : List (Rule Fault) = rules_of_cli_header (image_of file) in
    let at : ℕ = (header_of (image_of file)).root.start in
    let of_root : List (Rule Fault) = rules_of_root (root_in file (header_of (image_of file))) in
    let tail = all_back (rules_of_image file) (of_header ++ rebased at of_root) all in (
      all_prefix (rules_of_image file) (of_header ++ rebased at of_root) all,
      all_prefix of_header (rebased at of_root) tail,
      all_lowered at of_root (all_back of_header (rebased at of_root) tail),
    )
