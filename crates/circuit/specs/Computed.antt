-- The tests that compute, for contracts and types, against what they stand for.
use Rattle.std.specs.Prelude.{◌≡◌, ◌↔◌, ℕ, true, List}
use Rattle.circuit.specs.Circuit.{Netlist, Fault, Tests, tests}
use Rattle.circuit.specs.Tables.{FitTables, tables_fit}
use Rattle.circuit.specs.declared.net.Net.{Net}

-- `tests` says of a vector exactly whether it is a test of the fault
abbrev pub TestsAsDefined : Type 0
TestsAsDefined = (c : Netlist) (φ : Fault) (v : ℕ) → (tests c φ v ≡ true) ↔ Tests c φ v

-- tables that pass `tables_fit` stand for a netlist within the limits
abbrev pub PassingTablesFit : Type 0
PassingTablesFit = (inputs : ℕ) (nets : List Net) (pins outputs : List ℕ) → tables_fit inputs nets pins outputs ≡ true → FitTables inputs nets pins outputs
