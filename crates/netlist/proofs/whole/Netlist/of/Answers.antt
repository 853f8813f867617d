use Rattle.std.proofs.Common.{vec_items, ◌∙◌, arith}
use Rattle.std.proofs.lemmas.List.{length-map}
use Rattle.circuit.specs.Tables.{cell_of, cells_of}
use Rattle.order.proofs.Orders.{sorted_listed}
use Rattle.netlist.proofs.whole.Netlist.of.Goals as goal

pub invariant_of-result : goal.invariant_of-result
invariant_of-result c =
    let t = c.args.parts.tables in
    let listed = sorted_listed (cells_of (vec_items t.nets) (vec_items t.pins)) (vec_items c.args.order) c.requires.sorted in
    record {
      fits = c.requires.fits;
      named = omega (arith, t.paired, t.definitions.ok.0, t.nets.ok.0);
      distinct = c.requires.distinct;
      read = c.requires.readers;
      size = listed.0 ∙ length-map (vec_items t.nets) (cell_of (vec_items t.pins));
      follows = listed.1;
      complete = listed.2;
    }
