use Rattle.std.proofs.Common.{◌≡◌, ◌-◌, length}
use Rattle.grammar.specs.Scan.{scan, listing}
use Rattle.text.specs.Tokens.{rest}
use Rattle.text.proofs.cursor.Cursor.listed.Given as goal

abbrev pub invariant-loop-sign : goal.invariant-loop-sign
invariant-loop-sign l = listing (scan (rest l.initial.self)) ≡ listing (scan (rest l.self))

abbrev pub decreases-loop-sign : goal.decreases-loop-sign
decreases-loop-sign l = length l.self.text.now - l.self.at
