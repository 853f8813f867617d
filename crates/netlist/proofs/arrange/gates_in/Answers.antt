use Rattle.std.proofs.Common.{length, ap, arith}
use Rattle.netlist.specs.Accepted.{declared_in}
use Rattle.netlist.proofs.LayAll.{within_limits_lem}
use Rattle.netlist.proofs.Ordering.{tables_size, tables_formed}
use Rattle.netlist.proofs.arrange.gates_in.Goals as goal

pub invariant_of-result : goal.invariant_of-result
invariant_of-result c =
    let ds = declared_in c.args.text in
    let t = c.args.parts.now.tables in
    let laid = c.requires.laid in
    record {
      formed = tables_formed ds t c.as_slice.result.now c.as_slice-2.result.now c.as_slice.ensures.value c.as_slice-2.ensures.value laid;
      few = omega (arith, tables_size ds t laid, ap length c.as_slice.ensures.value, (within_limits_lem ds c.args.text.declarations.now.within).0);
    }
