use Rattle.std.proofs.Common.{vec_items, arith}
use Rattle.std.proofs.lemmas.List.{length-map}
use Rattle.circuit.specs.Tables.{cell_of}
use Rattle.order.specs.Cells.{cells_in}
use Rattle.netlist.proofs.Listing.{all_listed}
use Rattle.netlist.proofs.readers.list_readers.Goals as goal

pub returns : goal.returns
returns c =
    let gates = c.args.gates in
    all_listed (cells_in gates) c.loop-net.net (vec_items c.loop-net.readers) (omega (arith, length-map gates.nets.now (cell_of gates.pins.now), c.loop-net-test.false, c.loop-net.auto.net-end)) c.loop-net.invariant
