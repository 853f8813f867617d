-- The operations that a circuit is evaluated with, over values of any kind.
use Rattle.std.specs.Prelude.{ℕ, Bool}

-- load: from a word of 64 bits, one for each lane; stuck: with the place stuck at the bit
pub record Ops (V : Type 0) : Type 0 where
  pub load : ℕ → V
  pub inv : V → V
  pub and : V → V → V
  pub or : V → V → V
  pub xor : V → V → V
  pub stuck : Bool → V → V
