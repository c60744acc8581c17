-- What `clim digest` prints of a file: its digest and its path, as `sha256sum` prints them.
use Rattle.std.specs.Prelude.{ℕ, List, [], ◌∷◌, codes}
use Rattle.cli_lines.specs.declared.names.Name.TheVariants as name
use Rattle.cli_lines.specs.Lines.{Part, word, field, plain, text}

-- the line of a digest: its hexadecimal digits, two spaces, and the path
unfoldable pub digest_line : List ℕ → List ℕ → List Part
digest_line digits file = field name.Digest (plain digits) ∷ word (codes "  ") ∷ field name.File (text file) ∷ []
