use Rattle.std.proofs.Common.{arith, rules}
use Rattle.std.proofs.lemmas.Nat.{xor_lt}
use Rattle.packed.proofs.PackedAlgebra.difference.Goals as goal

pub returns : goal.returns
returns c = let below = xor_lt 64 c.args.self.good c.args.self.faulty (search rules) (search rules) in record { differing = omega arith }
