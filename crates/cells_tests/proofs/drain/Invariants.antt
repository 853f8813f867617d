use Rattle.std.proofs.Common.{length}
use Rattle.cells.specs.Stacks.{held}
use Rattle.cells_tests.proofs.drain.Given as goal

abbrev pub decreases-loop : goal.decreases-loop
decreases-loop l = length (held l.stack)
