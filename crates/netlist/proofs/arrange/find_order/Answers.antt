use Rattle.std.proofs.Common.{◌<◌, List, length, get_or, vec_items, sym, ap, ◌∙◌, subst, arith}
use Rattle.std.proofs.lemmas.List.{get_or-map, length-map}
use Rattle.netlist.specs.declared.tables.Definition.{Definition}
use Rattle.grammar.specs.Rules.{nets}
use Rattle.circuit.specs.Circuit.{Cell}
use Rattle.circuit.specs.Circles.{Sorted, CircleFree, FirstDependent}
use Rattle.elaborate.proofs.Accepted.{sorted_ordered}
use Rattle.elaborate.proofs.Growth.{length-cells}
use Rattle.elaborate.proofs.NetLines.{length-lines}
use Rattle.netlist.specs.Accepted.{declared_in}
use Rattle.netlist.proofs.LayAll.{within_limits_lem}
use Rattle.netlist.proofs.Ordering.{tables_size, tables_formed, tables_cells, accepted_all, refused_first}
use Rattle.netlist.proofs.arrange.find_order.Goals as goal

pub arrange-requires-clause-room : goal.arrange-requires-clause-room
arrange-requires-clause-room c =
    let ds = declared_in c.args.text in
    omega (arith, tables_size ds c.args.parts.now.tables c.requires.resolved.laid, ap length c.gates_in-gates.ensures.nets, (within_limits_lem ds c.args.text.declarations.now.within).0, c.requires.room)

pub index-definition-requires : goal.index-definition-requires
index-definition-requires c =
    let ds = declared_in c.args.text in
    let t = c.args.parts.now.tables in
    let cells = tables_cells ds t c.gates_in-gates.result.nets.now c.gates_in-gates.result.pins.now c.gates_in-gates.ensures.nets c.gates_in-gates.ensures.pins c.requires.resolved.laid in
    omega (arith, c.in-Err.ensures.0, ap length cells, length-cells (nets ds) 0 ds, length-lines ds, ap length c.requires.resolved.laid.lined, length-map (vec_items t.definitions) (λ (d : Definition). d.line), t.definitions.ok.0)

pub returns-in-Ok : goal.returns-in-Ok
returns-in-Ok c =
    let ds = declared_in c.args.text in
    let cells = tables_cells ds c.args.parts.now.tables c.gates_in-gates.result.nets.now c.gates_in-gates.result.pins.now c.gates_in-gates.ensures.nets c.gates_in-gates.ensures.pins c.requires.resolved.laid in
    let P : List Cell → Type 0 = λ xs. Sorted xs (vec_items c.arrange.new.order) × CircleFree xs in
    let both = subst P cells c.in-Ok.ensures in
    (both.0, accepted_all ds c.args.parts.now c.args.text.rising c.requires.resolved both.1, sorted_ordered ds (vec_items c.arrange.new.order) both.0 c.requires.resolved.listed)

pub returns-in-Err : goal.returns-in-Err
returns-in-Err c =
    let ds = declared_in c.args.text in
    let t = c.args.parts.now.tables in
    let cells = tables_cells ds t c.gates_in-gates.result.nets.now c.gates_in-gates.result.pins.now c.gates_in-gates.ensures.nets c.gates_in-gates.ensures.pins c.requires.resolved.laid in
    let P : List Cell → Type 0 = λ xs. FirstDependent xs c.in-Err.circle.net in
    let inside : c.in-Err.circle.net < length (vec_items t.definitions) = omega (arith, c.in-Err.ensures.0, ap length cells, length-cells (nets ds) 0 ds, length-lines ds, ap length c.requires.resolved.laid.lined, length-map (vec_items t.definitions) (λ (d : Definition). d.line)) in
    let line = ap (λ (d : Definition). d.line) c.index-definition.ensures ∙ sym (get_or-map (λ (d : Definition). d.line) (vec_items t.definitions) c.in-Err.circle.net c.index-definition.result.now 0 inside) ∙ ap (λ ls. get_or ls c.in-Err.circle.net 0) c.requires.resolved.laid.lined in
    refused_first ds c.args.parts.now c.args.text.rising c.requires.resolved c.in-Err.circle.net c.index-definition.result.now.line line (subst P cells c.in-Err.ensures)
