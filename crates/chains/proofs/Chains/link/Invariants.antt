use Rattle.std.proofs.Common.{length}
use Rattle.chains.proofs.Places.{Linked}
use Rattle.chains.proofs.Chains.link.Given as goal

abbrev pub invariant-loop-at : goal.invariant-loop-at
invariant-loop-at l = Linked l.keys (length l.fn.self.first.items) l.self.first.items l.self.next.items l.at
