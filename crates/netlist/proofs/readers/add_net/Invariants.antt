use Rattle.std.proofs.Common.{take, vec_items}
use Rattle.order.specs.Cells.{cells_in}
use Rattle.netlist.specs.Readers.{ReadSoFar}
use Rattle.netlist.proofs.readers.add_net.Given as goal

-- the net is among the readers of its first operands
abbrev pub invariant-loop-read : goal.invariant-loop-read
invariant-loop-read l = ReadSoFar (cells_in l.gates) l.net (take l.read-index l.read-items) (vec_items l.readers)
