-- What `clim root --until-fault` prints of a file that breaks a rule for its headers: their lines, as far as they can be read
-- (ECMA-335 II.25.3.3, II.24.2.1 and II.24.2.2).
use Rattle.std.specs.Prelude.{◌≡◌, ◌⊎◌, ℕ, List, [], ◌∷◌, map}
use Rattle.packed.specs.declared.fault.Fault.{Fault}
use Rattle.packed.specs.Rule.{AllHold, Rule}
use Rattle.pe.specs.Headers.{image_of}
use Rattle.pe.specs.Image.{Image}
use Rattle.pe.specs.Rules.{rules_of_image}
use Rattle.cli_header.specs.Rules.{rules_of_cli_header}
use Rattle.cli_header.specs.Said.{header_of}
use Rattle.root.specs.Fields.{headers_before, version_of}
use Rattle.root.specs.Readable.{IsReadableCount}
use Rattle.root.specs.Rules.{rules_of_root_header}
use Rattle.metadata.specs.Streams.{root_in}
use Rattle.cli_files.specs.declared.opened.Input.{Input}
use Rattle.cli_files.specs.declared.opened.Input.TheVariants.{BareRoot, File}
use Rattle.cli_lines.specs.Lines.{Part}
use Rattle.cli_print.specs.RootLines.{cli_line, stream_line, version_line}

-- those of a layer with these rules; none if a rule is broken
abbrev pub OfLayer : List (Rule Fault) → (List (List Part) → Type 0) → List (List Part) → Type 0
OfLayer rules AreLines lines = ((¬ AllHold rules) × (lines ≡ [])) ⊎ (AllHold rules × AreLines lines)

-- of a metadata root: the version, and the stream headers before the first that cannot be read
abbrev pub AreOfRoot : List ℕ → List (List Part) → Type 0
AreOfRoot root =
    OfLayer (rules_of_root_header root)
    (λ lines. (count : ℕ) × IsReadableCount root count × (lines ≡ version_line (version_of root) ∷ map stream_line (headers_before root count)))

-- of an image: its CLI header, and those of its metadata root
abbrev pub AreOfImage : Image → List (List Part) → Type 0
AreOfImage image =
    OfLayer (rules_of_cli_header image)
    (λ lines. (more : List (List Part)) × AreOfRoot (root_in image.bytes (header_of image)) more × (lines ≡ cli_line (header_of image) ∷ more))

-- of a file or a bare root
abbrev pub AreReadable : Input → List ℕ → List (List Part) → Type 0
AreReadable BareRoot bytes = AreOfRoot bytes
AreReadable File bytes = OfLayer (rules_of_image bytes) (AreOfImage (image_of bytes))
