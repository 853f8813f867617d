-- For the crates above: an order as the three facts that a type can keep, and back to an ordered netlist.
use Rattle.std.proofs.Common.{◌≡◌, ℕ, ◌<◌, List, length, arith}
use Rattle.circuit.specs.Circuit.{Cell, Netlist, IsNet, IsOutput, cell_in, input}
use Rattle.circuit.specs.Circles.{Sorted, Ordered}
use Rattle.circuit.specs.Listed.{Follows, Complete}
use Rattle.walk.proofs.Circle.{reads_behind}
use Rattle.walk.proofs.Listing.{sorted_follows, sorted_complete, listed_sorted}

-- what an order tells
pub sorted_listed : (cells : List Cell) (order : List ℕ) → Sorted cells order → (length order ≡ length cells) × Follows cells order × Complete cells order
sorted_listed cells order good = (good.size, sorted_follows cells order good, sorted_complete cells order good)

module _ (c : Netlist) (outputs : (k : ℕ) → IsOutput c k → IsNet c k) (inputs : (k i : ℕ) → IsNet c k → cell_in c.cells k ≡ input i → i < c.inputs) where
  pub sorted_ordered : (order : List ℕ) → Sorted c.cells order → Ordered c
  sorted_ordered order good = record {
    place = good.place;
    within = λ k lt. omega (arith, (good.placed k lt).0, good.size);
    earlier = λ k j lt reads. (reads_behind c.cells order good k j lt reads).1;
    read_net = λ k j lt reads. (reads_behind c.cells order good k j lt reads).0;
    output_net = outputs;
    input_below = inputs;
  }

  -- the three facts are an order of the netlist
  pub listed_ordered : (order : List ℕ) → length order ≡ length c.cells → Follows c.cells order → Complete c.cells order → Ordered c
  listed_ordered order size follows complete = sorted_ordered order (listed_sorted c.cells order size follows complete)
