-- What the lines say of the names' values, and that the netlist's nets carry just that.
use Rattle.std.specs.Prelude.{◌≡◌, ℕ, ◌<◌, Bool, List, [], map, length, slice_index_or}
use Rattle.std.specs.List.{ContainsAt}
use Rattle.model.specs.declared.kind.Kind.{Kind}
use Rattle.model.specs.Kinds.{word}
use Rattle.model.specs.Bits.{bit}
use Rattle.grammar.specs.Grammar.{gate}
use Rattle.grammar.specs.Proper.{Distinct}
use Rattle.grammar.specs.Rules.{Declaration, Among, UnknownKind, nets, inputs, pins}
use Rattle.circuit.specs.Circuit.{combined, plain, good}
use Rattle.circuit.specs.Circles.{Ordered}
use Rattle.elaborate.specs.Elaborate.{place_of, netlist_of}

-- What the lines say for the vector v: input i has bit i of it, and a gate's name has what its kind makes of its operands.
pub record LinesHold (ds : List Declaration) (v : ℕ) (val : List ℕ → Bool) : Type 0 where
  pub input_bits : (i : ℕ) → i < length (inputs ds) → val (slice_index_or (inputs ds) i []) ≡ bit v i
  pub gate_values : (line : ℕ) (n : List ℕ) (kind : Kind) (os : List (List ℕ)) → ContainsAt ds (record { line = line; says = gate n (word kind) os }) → val n ≡ combined plain kind (map val os)

-- what the net of this name carries for the vector v
abbrev pub value_named : List Declaration → ℕ → List ℕ → Bool
value_named ds v n = good (netlist_of ds) v (place_of (nets ds) n)

-- For every vector, each name has the value that its line says, and only that.
abbrev pub NamesHaveTheirLinesValues : List Declaration → Type 0
NamesHaveTheirLinesValues ds = (v : ℕ) → LinesHold ds v (value_named ds v) × ((val : List ℕ → Bool) → LinesHold ds v val → (n : List ℕ) → Among (nets ds) n → val n ≡ value_named ds v n)

-- what holds of declarations that no rule refuses
pub record WellDeclared (ds : List Declaration) : Type 0 where
  pub defined_once : Distinct (nets ds)
  pub operands_defined : (n : List ℕ) → Among (pins ds) n → Among (nets ds) n
  pub kinds_known : (d : Declaration) → ContainsAt ds d → UnknownKind d.says → ⊥
  pub ordered : Ordered (netlist_of ds)

-- Whatever is well declared, its names have their lines' values.
abbrev pub DeclarationsStand : Type 0
DeclarationsStand = (ds : List Declaration) → WellDeclared ds → NamesHaveTheirLinesValues ds
