-- What the values of an algebra mean: in each lane a set of pairs.
use Rattle.std.specs.Prelude.{ℕ}
use Rattle.model.specs.Pairs.{Pairs}

pub record Meaning (V : Type 0) : Type 0 where
  pub lanes : ℕ
  pub pairs : V → ℕ → Pairs
