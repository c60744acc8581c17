use Rattle.visible_rows.proofs.Prelude.{◌≡◌, ◌+◌, length, map, range_with_len, Metadata, IsModel, is_visible_type}
use Rattle.visible_rows.proofs.types.visible_types.Given as goal

-- the types so far
abbrev pub invariant-loop-earlier : goal.invariant-loop-earlier
invariant-loop-earlier l = record {
  long : length l.visible.items ≡ l.earlier + 1;
  are : (model : Metadata) → IsModel l.view model → l.visible.items ≡ map (is_visible_type model) (range_with_len 0 (l.earlier + 1));
}
