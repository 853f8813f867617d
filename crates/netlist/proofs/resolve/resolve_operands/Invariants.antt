use Rattle.std.proofs.Common.{◌≡◌, ◌+◌, ◌≤◌, ◌++◌, map, length, vec_items, vec_len, vec_capacity}
use Rattle.grammar.specs.Rules.{nets}
use Rattle.text.specs.Tokens.{names_left, names_of}
use Rattle.elaborate.specs.Elaborate.{place_of}
use Rattle.netlist.specs.Accepted.{declared_in}
use Rattle.netlist.specs.Resolved.{Covered, Uncovered}
use Rattle.netlist.proofs.resolve.resolve_operands.Given as goal

-- what is left to resolve, behind what is resolved, is all
abbrev pub invariant-loop-operand : goal.invariant-loop-operand
invariant-loop-operand l =
    (vec_items l.pins ++ map (place_of (nets (declared_in l.text))) (names_of l.operand-iterator) ≡ vec_items l.fn.pins ++ map (place_of (nets (declared_in l.text))) (names_left l.fn.operands))
    × (vec_len l.pins + length (names_of l.operand-iterator) ≤ vec_capacity l.pins)
    × (vec_capacity l.pins ≡ vec_capacity l.fn.pins)
    × (Covered (nets (declared_in l.text)) (names_of l.operand-iterator) → Covered (nets (declared_in l.text)) (names_left l.fn.operands))
    × (Uncovered (nets (declared_in l.text)) (names_of l.operand-iterator) → Uncovered (nets (declared_in l.text)) (names_left l.fn.operands))
