use Rattle.std.proofs.Common.{length}
use Rattle.report.proofs.line.+put.Given as goal

abbrev pub decreases-put : goal.decreases-put
decreases-put l = length l.pieces.now
