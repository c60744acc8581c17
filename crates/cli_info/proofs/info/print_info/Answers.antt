use Rattle.cli_info.proofs.info.print_info.Goals as goal

pub returns-clause-printed : goal.returns-clause-printed
returns-clause-printed g c = λ header model are.
    let facts = c.in_ok-header.ensures.facts header model are in
    let is = facts.1 in
    let more = c.lines_follow.ensures.more in
    rw (← facts.0)
    (more _ _ _ _ _ (c.print_identities.ensures model is)
    (more _ _ _ _ _ (c.print_module.ensures model is)
    (more _ _ _ _ _ (rw (c.version.ensures model is) at c.print_version.ensures)
    (more _ _ _ _ _ (c.print_headers.ensures model is)
    (more _ _ _ _ _ (c.print_counts.ensures model is)
    (more _ _ _ _ _ (c.print_identities-2.ensures model is) (c.print_attributes.ensures model is)))))))
