-- Tests at all five values: what the proofs of the laws in src/lib.rt run. No contract cites them.
use Rattle.std.specs.Prelude.{◌≡◌, Bool, true, ◌&&◌}
use Rattle.model.proofs.Finite.{Finite, left, right}
use Rattle.five.specs.declared.Five.{Five}
use Rattle.five.specs.declared.Five.TheVariants.{Zero, One, D, E, X}

abbrev pub all : (Five → Bool) → Bool
all p = p Zero && (p One && (p D && (p E && p X)))

pub at : (p : Five → Bool) → all p ≡ true → (v : Five) → p v ≡ true
at p e Zero = left _ _ e
at p e One = left _ _ (right (p Zero) _ e)
at p e D = left _ _ (right (p One) _ (right (p Zero) _ e))
at p e E = left _ _ (right (p D) _ (right (p One) _ (right (p Zero) _ e)))
at p e X = right (p E) _ (right (p D) _ (right (p One) _ (right (p Zero) _ e)))

abbrev pub fives : Finite Five
fives = record { all = all; at = at }
