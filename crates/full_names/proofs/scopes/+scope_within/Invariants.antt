use Rattle.full_names.proofs.scopes.+scope_within.Given as goal

abbrev pub decreases-scope_within : goal.decreases-scope_within
decreases-scope_within g l = l.depth
