-- The tables that the first declarations have been laid out in.
use Rattle.std.specs.Prelude.{◌≡◌, ℕ, ◌+◌, ◌<◌, ◌≤◌, List, [], ◌∷◌, ◌++◌, map, length, take, Ok, Err, Result, Vec, vec_items, vec_len, slice_index_or}
use Rattle.std.specs.List.{AllByRecursion}
use Rattle.std.specs.declared.alloc.Global.{Global}
use Rattle.grammar.specs.Grammar.{Statement}
use Rattle.grammar.specs.Rules.{Declaration, gathered, nets, inputs, outputs, pins, net_of, input_of, output_of, pins_of}
use Rattle.bench.specs.declared.statement.Declaration as code
use Rattle.bench.specs.Statements.{said, declaration}
use Rattle.elaborate.specs.Elaborate.{place_of}
use Rattle.elaborate.specs.Tabled.{Tabled}
use Rattle.elaborate.specs.Whole.{net_lines}
use Rattle.netlist.specs.declared.fault.LoadFault.{LoadFault}
use Rattle.netlist.specs.declared.fault.LoadFault.TheVariants as fault
use Rattle.netlist.specs.declared.tables.Tables.{Tables}
use Rattle.netlist.specs.Names.{names_of, lines_of}
use Rattle.netlist.specs.Resolved.{Covered, Uncovered}

pub record LaidIn (names : List (List ℕ)) (ds : List Declaration) (t : Tables) : Type 0 where
  pub tabled : Tabled names ds (vec_items t.nets) (vec_items t.pins)
  pub counted : t.inputs ≡ length (inputs ds)
  pub named : names_of (vec_items t.definitions) ≡ nets ds
  pub lined : lines_of (vec_items t.definitions) ≡ net_lines ds

-- there is room for what a statement brings, its name is short, and it has few operands
pub record Fits (t : Tables) (s : Statement) : Type 0 where
  pub nets : vec_len t.nets + length (net_of s) ≤ 2048
  pub pins : vec_len t.pins + length (pins_of s) ≤ 8192
  pub inputs : t.inputs + length (input_of s) ≤ 64
  pub short : AllByRecursion (λ n. length n ≤ 16) (net_of s)
  pub few : length (pins_of s) ≤ 16

-- one declaration more is laid out; or one of its operands is not defined
abbrev pub LaysOne : List (List ℕ) → code.Declaration → Tables → Tables → Result (Unit {0}) LoadFault → Type 0
LaysOne names d t u (Ok _) = Covered names (pins_of (said d.says)) × ((ds : List Declaration) → LaidIn names ds t → LaidIn names (ds ++ declaration d ∷ []) u)
LaysOne names d t u (Err e) = (e ≡ fault.UndefinedOperand d.line) × Uncovered names (pins_of (said d.says))

-- the line of the first declaration with an undefined name among those that f takes of it
pub record FirstUndefined (f : Statement → List (List ℕ)) (ds : List Declaration) (line : ℕ) : Type 0 where
  pub place : ℕ
  pub here : Declaration
  pub inside : place < length ds
  pub stands : slice_index_or ds place here ≡ here
  pub at_line : here.line ≡ line
  pub undefined : Uncovered (nets ds) (f here.says)
  pub defined : Covered (nets ds) (gathered f (take place ds))

-- all declarations are laid out; or the first line with an undefined operand, or want of memory
abbrev pub LaysOut : List Declaration → Result Tables LoadFault → Type 0
LaysOut ds (Ok t) = LaidIn (nets ds) ds t × Covered (nets ds) (pins ds)
LaysOut ds (Err fault.Memory) = Unit {0}
LaysOut ds (Err fault.FewCells) = ⊥
LaysOut ds (Err (fault.Statement f)) = ⊥
LaysOut ds (Err (fault.UndefinedOperand line)) = FirstUndefined pins_of ds line
LaysOut ds (Err (fault.UndefinedOutput line)) = ⊥
LaysOut ds (Err fault.NoPort) = ⊥
LaysOut ds (Err (fault.Circle line)) = ⊥

-- all outputs are listed; or the first line with one that is undefined, or want of memory
abbrev pub ListsOut : List Declaration → Result (Vec ℕ Global) LoadFault → Type 0
ListsOut ds (Ok os) = (vec_items os ≡ map (place_of (nets ds)) (outputs ds)) × Covered (nets ds) (outputs ds)
ListsOut ds (Err fault.Memory) = Unit {0}
ListsOut ds (Err fault.FewCells) = ⊥
ListsOut ds (Err (fault.Statement f)) = ⊥
ListsOut ds (Err (fault.UndefinedOperand line)) = ⊥
ListsOut ds (Err (fault.UndefinedOutput line)) = FirstUndefined output_of ds line
ListsOut ds (Err fault.NoPort) = ⊥
ListsOut ds (Err (fault.Circle line)) = ⊥
