-- The laws of an algebra's operations.
-- Containment: what an operation makes of the pairs of its operands' lanes is in the lane of the result.
-- Exactness: a lane that is decided in every operand is decided in the result.
use Rattle.std.specs.Prelude.{◌≡◌, ℕ, ◌<◌, ◌≤◌, Bool, not, ◌&&◌, ◌||◌}
use Rattle.model.specs.Bits.{bit, differ}
use Rattle.model.specs.Pairs.{Has, Decided, only, size}
use Rattle.model.specs.Operations.{Ops}
use Rattle.model.specs.Meaning.{Meaning}

module _ {V : Type 0} (m : Meaning V) where
  -- of an operation that maps g by h and f by k
  pub record Unary (h k : Bool → Bool) (op : V → V) : Type 0 where
    pub contains : (v : V) (i : ℕ) → i < m.lanes → (g f : Bool) → Has (m.pairs v i) g f → Has (m.pairs (op v) i) (h g) (k f)
    pub exact : (v : V) (i : ℕ) → i < m.lanes → Decided (m.pairs v i) → Decided (m.pairs (op v) i)

  -- of an operation that joins the good bits by h, and the faulty bits by h
  pub record Binary (h : Bool → Bool → Bool) (op : V → V → V) : Type 0 where
    pub contains : (u v : V) (i : ℕ) → i < m.lanes → (g f g' f' : Bool) → Has (m.pairs u i) g f → Has (m.pairs v i) g' f' → Has (m.pairs (op u v) i) (h g g') (h f f')
    pub exact : (u v : V) (i : ℕ) → i < m.lanes → Decided (m.pairs u i) → Decided (m.pairs v i) → Decided (m.pairs (op u v) i)

pub record OperationLaws {V : Type 0} (m : Meaning V) (o : Ops V) : Type 0 where
  pub some_lane : 0 < m.lanes
  pub few_lanes : m.lanes ≤ 64
  pub nonempty : (v : V) (i : ℕ) → i < m.lanes → 0 < size (m.pairs v i)
  pub load : (w i : ℕ) → i < m.lanes → (g f : Bool) → m.pairs (o.load w) i g f ≡ only (bit w i) (bit w i) g f
  pub inv : Unary m not not o.inv
  pub and : Binary m ◌&&◌ o.and
  pub or : Binary m ◌||◌ o.or
  pub xor : Binary m differ o.xor
  pub stuck : (b : Bool) → Unary m (λ g. g) (λ _. b) (o.stuck b)
