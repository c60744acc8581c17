use Rattle.sig_text.proofs.marks.+marks.Given as goal

abbrev pub decreases-marks : goal.decreases-marks
decreases-marks g l = l.count
