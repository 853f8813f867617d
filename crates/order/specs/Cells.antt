-- What the gates stand for.
use Rattle.std.specs.Prelude.{◌≡◌, ℕ, ◌<◌, ◌≤◌, List, length, Some, None, Option}
use Rattle.std.specs.Borrow.{Bor}
use Rattle.circuit.specs.Circuit.{Cell, operands_at}
use Rattle.circuit.specs.Tables.{cells_of}
use Rattle.order.specs.declared.gates.Gates.{Gates}

abbrev pub cells_in : Gates → List Cell
cells_in g = cells_of g.nets.now g.pins.now

-- what net k reads, at most 16 nets; or there is no such net
abbrev pub Reads : Gates → ℕ → Option (Bor (List ℕ)) → Type 0
Reads g k (Some read) = (k < length g.nets.now) × (read.now ≡ operands_at (cells_in g) k) × (length read.now ≤ 16)
Reads g k None = length g.nets.now ≤ k
