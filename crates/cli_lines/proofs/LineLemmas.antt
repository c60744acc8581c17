-- The parts of a line, one after another.
use Rattle.cli_lines.proofs.Prelude.{◌≡◌, ℕ, List, ◌∷◌, ◌++◌, append_assoc, flat_map, Part, line_feed}

-- one more part of a line of text
pub joined : (of : Part → List ℕ) (line new : List ℕ) (part : Part) (more : List Part) → new ≡ line ++ of part
    → new ++ (flat_map of more ++ line_feed) ≡ line ++ (flat_map of (part ∷ more) ++ line_feed)
joined of line new part more is = rw is (simp append_assoc)
