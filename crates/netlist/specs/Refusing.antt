-- The numbers, lines and layers of what a load is refused for.
use Rattle.model.specs.declared.refusal.Refusal.{Refusal}
use Rattle.model.specs.Refusals.{refusal}
use Rattle.bench.specs.Faults.{statement_refusal}
use Rattle.netlist.specs.declared.fault.LoadFault.{LoadFault}
use Rattle.netlist.specs.declared.fault.LoadFault.TheVariants as fault

-- 0 is want of memory
abbrev pub load_refusal : LoadFault → Refusal
load_refusal fault.Memory = refusal 0 0
load_refusal fault.FewCells = refusal 1 0
load_refusal (fault.Statement f) = statement_refusal f
load_refusal (fault.UndefinedOperand line) = refusal 10 line
load_refusal (fault.UndefinedOutput line) = refusal 11 line
load_refusal fault.NoPort = refusal 12 0
load_refusal (fault.Circle line) = refusal 13 line
