use Rattle.std.proofs.Common.{length}
use Rattle.cli_sending.proofs.escapes.+read_start.Given as goal

abbrev pub decreases-read_start : goal.decreases-read_start
decreases-read_start l = length l.text.now
