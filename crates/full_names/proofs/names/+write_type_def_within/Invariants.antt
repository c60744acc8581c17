use Rattle.full_names.proofs.names.+write_type_def_within.Given as goal

abbrev pub decreases-write_type_def_within : goal.decreases-write_type_def_within
decreases-write_type_def_within g l = l.depth
