-- The laws of what a search for one test asks of a value, about its lane 0.
use Rattle.std.specs.Prelude.{◌≡◌, Bool, ◌==◌}
use Rattle.model.specs.Bits.{differ}
use Rattle.model.specs.Pairs.{Has, size, some}
use Rattle.model.specs.Meaning.{Meaning}

pub record Search (V : Type 0) : Type 0 where
  pub unknown : V
  pub decided : V → Bool
  pub may_differ : V → Bool

pub record SearchLaws {V : Type 0} (m : Meaning V) (s : Search V) : Type 0 where
  pub unknown : (g f : Bool) → Has (m.pairs s.unknown 0) g f
  pub decided : (v : V) → s.decided v ≡ (size (m.pairs v 0) == 1)
  pub may_differ : (v : V) → s.may_differ v ≡ some differ (m.pairs v 0)
