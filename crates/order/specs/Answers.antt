-- What the calls need and answer.
use Rattle.std.specs.Prelude.{◌≡◌, ℕ, ◌<◌, ◌≤◌, List, [], length, Ok, Err, Result}
use Rattle.circuit.specs.Circuit.{Cell}
use Rattle.circuit.specs.Circles.{DependsOnCircle, CircleFree, FirstDependent, Sorted}
use Rattle.order.specs.Cells.{cells_in}
use Rattle.order.specs.declared.gates.Gates.{Gates}
use Rattle.order.specs.declared.Circle.{Circle}
use Rattle.walk.specs.declared.mark.Mark.{Mark}
use Rattle.walk.specs.declared.mark.Mark.TheVariants.{New, Done}
use Rattle.walk.specs.Walks.{Walk, Stays, mark_at}

-- between two walks: no net is open, start is a new one, and the path and the order have room for every net
pub record Ready (gates : Gates) (start cells : ℕ) (marks : List Mark) (order : List ℕ) (limit : ℕ) : Type 0 where
  pub is_net : start < length gates.nets.now
  pub new : mark_at marks start ≡ New
  pub room : length gates.nets.now ≤ cells
  pub capacity : length gates.nets.now ≤ limit
  pub walk : Walk (cells_in gates) order [] marks

-- start is done, with all that was done before; or a circle was met behind it
abbrev pub Followed : List Cell → ℕ → List Mark → List ℕ → List Mark → Result (Unit {0}) Circle → Type 0
Followed cells start before order after (Ok _) = Walk cells order [] after × (mark_at after start ≡ Done) × Stays before after
Followed cells start before order after (Err c) = (c.net ≡ start) × DependsOnCircle cells start

-- no net depends on a circle, and this is an order of all nets; or the first net that depends on a circle
abbrev pub Arranged : List Cell → List ℕ → Result (Unit {0}) Circle → Type 0
Arranged cells order (Ok _) = Sorted cells order × CircleFree cells
Arranged cells order (Err c) = FirstDependent cells c.net
