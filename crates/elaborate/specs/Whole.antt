-- The rules that the whole declarations can break, each under the number of its refusal.
use Rattle.std.specs.Prelude.{◌≡◌, ℕ, ◌<◌, List, [], ◌∷◌, ◌++◌, map, length, slice_index, slice_index_or}
use Rattle.std.specs.List.{ContainsAt}
use Rattle.grammar.specs.Rules.{Declaration, Among, net_of, pins_of, output_of, nets, inputs, outputs}
use Rattle.circuit.specs.Circles.{DependsOnCircle}
use Rattle.elaborate.specs.Elaborate.{cells_of}

abbrev pub Undefined : List Declaration → List ℕ → Type 0
Undefined ds n = Among (nets ds) n → ⊥

-- the numbers of the lines rise
abbrev pub Rising : List Declaration → Type 0
Rising ds = (i j : ℕ) (d e : Declaration) → i < j → j < length ds → (slice_index_or ds i d).line < (slice_index_or ds j e).line

-- the line on which each net is defined, net by net
abbrev pub net_lines : List Declaration → List ℕ
net_lines [] = []
net_lines (d ∷ ds) = map (λ _. d.line) (net_of d.says) ++ net_lines ds

-- The declarations break the rule of this number at this line.
pub data BreaksWhole (ds : List Declaration) : ℕ → ℕ → Type 0 where
  undefined_operand : (d : Declaration) (n : List ℕ) → ContainsAt ds d → Among (pins_of d.says) n → Undefined ds n → BreaksWhole ds 10 d.line
  undefined_output : (d : Declaration) (n : List ℕ) → ContainsAt ds d → Among (output_of d.says) n → Undefined ds n → BreaksWhole ds 11 d.line
  no_input : inputs ds ≡ [] → BreaksWhole ds 12 0
  no_output : outputs ds ≡ [] → BreaksWhole ds 12 0
  needs_circle : (k : ℕ) → k < length (nets ds) → DependsOnCircle (cells_of ds) k → BreaksWhole ds 13 (slice_index (net_lines ds) k)

-- the smallest number wins, and then the smallest line
pub record RefusedWhole (ds : List Declaration) (n line : ℕ) : Type 0 where
  pub broken : BreaksWhole ds n line
  pub smallest : (m l : ℕ) → m < n → BreaksWhole ds m l → ⊥
  pub first : (l : ℕ) → l < line → BreaksWhole ds n l → ⊥

abbrev pub AcceptedWhole : List Declaration → Type 0
AcceptedWhole ds = (n line : ℕ) → BreaksWhole ds n line → ⊥

-- Declarations are refused in at most one way, and not where they are accepted.
abbrev pub OneAnswer : Type 0
OneAnswer = ((ds : List Declaration) (n m line l : ℕ) → RefusedWhole ds n line → RefusedWhole ds m l → (n ≡ m) × (line ≡ l)) × ((ds : List Declaration) (n line : ℕ) → RefusedWhole ds n line → AcceptedWhole ds → ⊥)
