use Rattle.std.proofs.Common.{take}
use Rattle.grammar.specs.Rules.{nets, pins}
use Rattle.netlist.specs.Accepted.{declared_in}
use Rattle.netlist.specs.Laid.{LaidIn}
use Rattle.netlist.specs.Resolved.{Covered}
use Rattle.netlist.proofs.resolve.lay_out.Given as goal

-- the declarations so far are laid out, and their operands defined
abbrev pub invariant-loop-declaration : goal.invariant-loop-declaration
invariant-loop-declaration l =
    LaidIn (nets (declared_in l.text)) (take l.declaration-index (declared_in l.text)) l.tables × Covered (nets (declared_in l.text)) (pins (take l.declaration-index (declared_in l.text)))
