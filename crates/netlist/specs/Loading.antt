-- What a load makes of a text.
use Rattle.std.specs.Prelude.{◌≡◌, ℕ, ◌≤◌, List, [], map, Ok, Err, Result}
use Rattle.grammar.specs.Rules.{Declaration, nets, pins}
use Rattle.grammar.specs.Reading.{Reads, accepted, refused}
use Rattle.bench.specs.Faults.{statement_refusal}
use Rattle.circuit.specs.Circles.{Ordered}
use Rattle.elaborate.specs.Elaborate.{netlist_of, place_of}
use Rattle.elaborate.specs.Values.{NamesHaveTheirLinesValues}
use Rattle.elaborate.specs.Whole.{RefusedWhole, AcceptedWhole}
use Rattle.netlist.specs.declared.fault.LoadFault.{LoadFault}
use Rattle.netlist.specs.declared.fault.LoadFault.TheVariants as fault
use Rattle.netlist.specs.declared.whole.Netlist.{Netlist}
use Rattle.netlist.specs.Views.{netlist_in, names_in, pins_in, Empty}

-- the netlist that the declarations stand for, where no rule is broken; or the refusal, or want of memory
abbrev pub Builds : List Declaration → Result Netlist LoadFault → Type 0
Builds ds (Ok n) = (netlist_in n ≡ netlist_of ds) × (names_in n ≡ nets ds) × AcceptedWhole ds × Ordered (netlist_of ds) × (pins_in n ≡ map (place_of (nets ds)) (pins ds))
Builds ds (Err fault.Memory) = Unit {0}
Builds ds (Err fault.FewCells) = ⊥
Builds ds (Err (fault.Statement f)) = ⊥
Builds ds (Err (fault.UndefinedOperand line)) = RefusedWhole ds 10 line
Builds ds (Err (fault.UndefinedOutput line)) = RefusedWhole ds 11 line
Builds ds (Err fault.NoPort) = RefusedWhole ds 12 0
Builds ds (Err (fault.Circle line)) = RefusedWhole ds 13 line

-- so many working cells and parent links are enough for every netlist
abbrev pub Enough : ℕ → ℕ → Type 0
Enough cells links = (2048 ≤ cells) × (20480 ≤ links)

-- the text is read to its end, and the rule n is broken at this line
abbrev pub RefusesWhole : List ℕ → ℕ → ℕ → Type 0
RefusesWhole text n line = (ds : List Declaration) × Reads text [] accepted ds × RefusedWhole ds n line

-- The netlist is what the text declares: its names, its nets in line order, and for every vector each name has the value
-- that its line says.
pub record Means (text : List ℕ) (n : Netlist) : Type 0 where
  pub declared : List Declaration
  pub read : Reads text [] accepted declared
  pub accepted_whole : AcceptedWhole declared
  pub netlist : netlist_in n ≡ netlist_of declared
  pub names : names_in n ≡ nets declared
  pub pins_in_line_order : pins_in n ≡ map (place_of (nets declared)) (pins declared)
  pub values : NamesHaveTheirLinesValues declared

-- the outcome of making a netlist from a text with so many cells and links
abbrev pub Makes : List ℕ → ℕ → ℕ → Result Netlist LoadFault → Type 0
Makes text cells links (Ok n) = Enough cells links × Means text n
Makes text cells links (Err fault.Memory) = Unit {0}
Makes text cells links (Err fault.FewCells) = Enough cells links → ⊥
Makes text cells links (Err (fault.Statement f)) = Enough cells links × ((es : List Declaration) × Reads text [] (refused (statement_refusal f)) es)
Makes text cells links (Err (fault.UndefinedOperand line)) = Enough cells links × RefusesWhole text 10 line
Makes text cells links (Err (fault.UndefinedOutput line)) = Enough cells links × RefusesWhole text 11 line
Makes text cells links (Err fault.NoPort) = Enough cells links × RefusesWhole text 12 0
Makes text cells links (Err (fault.Circle line)) = Enough cells links × RefusesWhole text 13 line

-- the same in place: a refused load leaves the empty netlist
abbrev pub Loads : List ℕ → ℕ → ℕ → Result (Unit {0}) LoadFault → Netlist → Type 0
Loads text cells links (Ok u) n = Makes text cells links (Ok n)
Loads text cells links (Err f) n = Makes text cells links (Err f) × Empty n
