-- What becomes of the declarations of a text.
use Rattle.std.specs.Prelude.{◌≡◌, ℕ, List, [], map, Ok, Err, vec_items, Result, Vec}
use Rattle.grammar.specs.Rules.{Declaration, nets, inputs, outputs, pins}
use Rattle.std.specs.declared.alloc.Global.{Global}
use Rattle.circuit.specs.Circles.{Sorted, Ordered}
use Rattle.elaborate.specs.Elaborate.{place_of, cells_of, netlist_of}
use Rattle.elaborate.specs.Whole.{RefusedWhole, AcceptedWhole}
use Rattle.netlist.specs.declared.fault.LoadFault.{LoadFault}
use Rattle.netlist.specs.declared.fault.LoadFault.TheVariants as fault
use Rattle.netlist.specs.declared.resolve.Parts.{Parts}
use Rattle.netlist.specs.Resolved.{Covered}
use Rattle.netlist.specs.Laid.{LaidIn}

-- every name stands for a net, and there are inputs and outputs
pub record Resolved (ds : List Declaration) (p : Parts) : Type 0 where
  pub laid : LaidIn (nets ds) ds p.tables
  pub operands : Covered (nets ds) (pins ds)
  pub listed : Covered (nets ds) (outputs ds)
  pub outputs_are : vec_items p.outputs ≡ map (place_of (nets ds)) (outputs ds)
  pub some_input : inputs ds ≡ [] → ⊥
  pub some_output : outputs ds ≡ [] → ⊥

-- names to numbers, or refusal 10, 11 or 12, or want of memory
abbrev pub ResolvesAll : List Declaration → Result Parts LoadFault → Type 0
ResolvesAll ds (Ok p) = Resolved ds p
ResolvesAll ds (Err fault.Memory) = Unit {0}
ResolvesAll ds (Err fault.FewCells) = ⊥
ResolvesAll ds (Err (fault.Statement f)) = ⊥
ResolvesAll ds (Err (fault.UndefinedOperand line)) = RefusedWhole ds 10 line
ResolvesAll ds (Err (fault.UndefinedOutput line)) = RefusedWhole ds 11 line
ResolvesAll ds (Err fault.NoPort) = RefusedWhole ds 12 0
ResolvesAll ds (Err (fault.Circle line)) = ⊥

-- an order of all nets where no rule is broken; or refusal 13, or want of memory
abbrev pub OrdersAll : List Declaration → Result (Vec ℕ Global) LoadFault → Type 0
OrdersAll ds (Ok order) = Sorted (cells_of ds) (vec_items order) × AcceptedWhole ds × Ordered (netlist_of ds)
OrdersAll ds (Err fault.Memory) = Unit {0}
OrdersAll ds (Err fault.FewCells) = ⊥
OrdersAll ds (Err (fault.Statement f)) = ⊥
OrdersAll ds (Err (fault.UndefinedOperand line)) = ⊥
OrdersAll ds (Err (fault.UndefinedOutput line)) = ⊥
OrdersAll ds (Err fault.NoPort) = ⊥
OrdersAll ds (Err (fault.Circle line)) = RefusedWhole ds 13 line
