-- The headers of a file (ECMA-335 II.25.3.3 and II.24.2.1): its CLI header, and the version and the stream headers of
-- its metadata root.
use Rattle.std.specs.Prelude.{◌≡◌, ℕ, List, Option, Some, None}
use Rattle.packed.specs.declared.fault.Fault.{Fault}
use Rattle.packed.specs.Rule.{Rule}
use Rattle.pe.specs.Image.{Image, IsImage}
use Rattle.cli_header.specs.declared.header.CliHeader.{CliHeader}
use Rattle.cli_header.specs.Header.{IsCliHeader}
use Rattle.root.specs.Root.{IsRoot}
use Rattle.root.specs.Streams.{RootRead}
use Rattle.root.specs.Rules.{rules_of_root}
use Rattle.metadata.specs.Streams.{root_in}
use Rattle.opening.specs.Heads.{rules_of_heads as rules_of_file_heads}
use Rattle.cli_files.specs.declared.opened.Input.{Input}
use Rattle.cli_files.specs.declared.opened.Input.TheVariants.{BareRoot, File}

-- as a bare root the bytes are a metadata root with this directory; as a file they are an image with this CLI header,
-- whose root has this directory
abbrev pub AreHeads : Input → List ℕ → Option CliHeader → RootRead → Type 0
AreHeads BareRoot bytes header root = (header ≡ None) × IsRoot bytes root.version root.headers
AreHeads File bytes header root =
    (image : Image) × (found : CliHeader) × IsImage bytes image × IsCliHeader image found × (header ≡ Some found)
    × IsRoot (root_in bytes found) root.version root.headers

-- the same CLI header, version and stream headers
abbrev pub SameHeads : Option CliHeader → RootRead → Option CliHeader → RootRead → Type 0
SameHeads header root other more = (header ≡ other) × (root.version ≡ more.version) × (root.headers ≡ more.headers)

abbrev pub HasHeads : Input → List ℕ → Type 0
HasHeads input bytes = (header : Option CliHeader) × (root : RootRead) × AreHeads input bytes header root

-- the rules for the headers, in order: for a file those for the image, the CLI header and the root
unfoldable pub rules_of_heads : Input → List ℕ → List (Rule Fault)
rules_of_heads BareRoot bytes = rules_of_root bytes
rules_of_heads File bytes = rules_of_file_heads bytes
