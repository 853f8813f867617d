-- A netlist's tables, and the declarations that they stand for; places go by one fixed list of names.
use Rattle.std.specs.Prelude.{◌≡◌, ℕ, true, List, map, length}
use Rattle.std.specs.List.{AllByRecursion}
use Rattle.grammar.specs.Rules.{Declaration, pins}
use Rattle.circuit.specs.Tables as tables
use Rattle.circuit.specs.Tables.{Formed, pins_follow}
use Rattle.circuit.specs.declared.net.Net.{Net}
use Rattle.elaborate.specs.Elaborate.{place_of, cells_with}

-- the tables stand for the declarations so far
pub record Tabled (names : List (List ℕ)) (ds : List Declaration) (table : List Net) (wires : List ℕ) : Type 0 where
  pub cells : tables.cells_of table wires ≡ cells_with names 0 ds
  pub wired : wires ≡ map (place_of names) (pins ds)
  pub formed : AllByRecursion (Formed wires (length names)) table
  pub follow : pins_follow 0 (length wires) table ≡ true
