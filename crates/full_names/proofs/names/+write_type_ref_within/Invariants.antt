use Rattle.full_names.proofs.names.+write_type_ref_within.Given as goal

abbrev pub decreases-write_type_ref_within : goal.decreases-write_type_ref_within
decreases-write_type_ref_within g l = l.depth
