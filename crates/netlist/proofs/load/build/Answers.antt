use Rattle.std.proofs.Common.{length, vec_items, ap, arith}
use Rattle.std.proofs.lemmas.List.{length-map}
use Rattle.grammar.specs.Rules.{nets, outputs, pins}
use Rattle.circuit.proofs.Fit.{within_limits_lem}
use Rattle.elaborate.specs.Elaborate.{place_of}
use Rattle.elaborate.proofs.Fitted.{tabled_fit}
use Rattle.netlist.specs.Accepted.{declared_in}
use Rattle.netlist.proofs.LayAll as laying
use Rattle.netlist.proofs.Ordering.{tables_size}
use Rattle.netlist.proofs.load.build.Goals as goal

pub of-requires-clause-fits : goal.of-requires-clause-fits
of-requires-clause-fits c =
    let d = c.args.text.declarations.now in
    let ds = declared_in c.args.text in
    let t = c.in_ok-parts.parts.tables in
    let outs = vec_items c.in_ok-parts.parts.outputs in
    let made = c.in_ok-parts.ensures in
    let laid = made.laid in
    let limits = laying.within_limits_lem ds d.within in
    tabled_fit ds (vec_items t.nets) (vec_items t.pins) laid.tabled t.inputs outs d.proper.all c.in_ok-order.ensures.2 laid.counted made.outputs_are made.operands made.listed (
    within_limits_lem t.inputs (length (vec_items t.nets)) (length (vec_items t.pins)) (length outs) (omega (arith, tables_size ds t laid, limits.0))
    (omega (arith, ap length laid.tabled.wired, length-map (pins ds) (place_of (nets ds)), limits.1)) (omega (arith, laid.counted, limits.2))
    (omega (arith, ap length made.outputs_are, length-map (outputs ds) (place_of (nets ds)), limits.3)))
