use Rattle.names.specs.Tables.{held}
use Rattle.names.proofs.Chains.{Walked}
use Rattle.names.proofs.table.Names.find.Given as goal

abbrev pub invariant-loop-at : goal.invariant-loop-at
invariant-loop-at l = Walked (held l.self) l.bytes l.at

abbrev pub decreases-loop-at : goal.decreases-loop-at
decreases-loop-at l = l.at
