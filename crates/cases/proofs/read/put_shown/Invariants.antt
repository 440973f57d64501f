use Rattle.std.proofs.Common.{length}
use Rattle.cases.proofs.read.put_shown.Given as goal

abbrev pub decreases-bytes : goal.decreases-bytes
decreases-bytes l = length l.rest
