use Rattle.cli_names.proofs.Prelude.{◌-◌, ◌≤◌, ◌↔◌, IfSome, length, map, Metadata, IsModel, HasAllParts, HasParts, row_count}
use Rattle.cli_names.proofs.path.has_parts.Given as goal

-- the last parts are the names of the row and of those outside of it, up to this one
abbrev pub invariant-loop-below : goal.invariant-loop-below
invariant-loop-below l = record {
  first : IfSome l.left (λ inner. 1 ≤ inner);
  last : IfSome l.left (λ inner. inner ≤ row_count l.view l.table);
  same : (model : Metadata) → IsModel l.view model
      → HasAllParts model l.table (map (λ part. part.now) l.parts) l.fn.row
      ↔ HasParts model l.table (map (λ part. part.now) l.parts) (length l.parts - l.below) l.left;
}
