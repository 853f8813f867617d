-- The laws of the words that are read of a value.
use Rattle.std.specs.Prelude.{◌≡◌, ℕ, ◌^◌, ◌<◌, Bool}
use Rattle.model.specs.Bits.{bit, differ}
use Rattle.model.specs.Pairs.{every}
use Rattle.model.specs.Meaning.{Meaning}

pub record Words (V : Type 0) : Type 0 where
  pub difference : V → ℕ
  pub good : V → ℕ

-- bit i says whether every pair of lane i passes the test, and no bit beyond the lanes is 1
pub record Word {V : Type 0} (m : Meaning V) (test : Bool → Bool → Bool) (word : V → ℕ) : Type 0 where
  pub lane : (v : V) (i : ℕ) → i < m.lanes → bit (word v) i ≡ every test (m.pairs v i)
  pub beyond : (v : V) → word v < 2 ^ m.lanes

pub record WordLaws {V : Type 0} (m : Meaning V) (w : Words V) : Type 0 where
  pub difference : Word m differ w.difference
  pub good : Word m (λ g _. g) w.good
