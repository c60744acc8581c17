use Rattle.clim_c.proofs.opened.kept.Goals as goal

pub invariant_of-result : goal.invariant_of-result
invariant_of-result c = record {
  model = λ is_open. rw c.root.ensures.bytes c.root.ensures.model;
  is_found = λ is_open. rw c.root.ensures.bytes c.found.ensures;
}
