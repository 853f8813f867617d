use Rattle.std.proofs.Common.{◌≡◌, ◌≤◌, map, take, vec_items, vec_capacity}
use Rattle.grammar.specs.Rules.{nets, outputs}
use Rattle.elaborate.specs.Elaborate.{place_of}
use Rattle.netlist.specs.Accepted.{declared_in}
use Rattle.netlist.specs.Resolved.{Covered}
use Rattle.netlist.proofs.resolve.list_outputs.Given as goal

-- the outputs so far are listed, and defined
abbrev pub invariant-loop-declaration : goal.invariant-loop-declaration
invariant-loop-declaration l =
    ((vec_items l.outputs ≡ map (place_of (nets (declared_in l.text))) (outputs (take l.declaration-index (declared_in l.text)))) × Covered (nets (declared_in l.text)) (outputs (take l.declaration-index (declared_in l.text))))
    × (64 ≤ vec_capacity l.outputs)
