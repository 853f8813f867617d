-- Names that stand for nets.
use Rattle.std.specs.Prelude.{◌≡◌, ℕ, List, ◌++◌, map, Ok, Err, Result}
use Rattle.grammar.specs.Rules.{Among}
use Rattle.elaborate.specs.Elaborate.{place_of}
use Rattle.netlist.specs.declared.fault.LoadFault.{LoadFault}

-- each of the names is the name of a net
abbrev pub Covered : List (List ℕ) → List (List ℕ) → Type 0
Covered ns os = (n : List ℕ) → Among os n → Among ns n

-- one of the names is not
abbrev pub Uncovered : List (List ℕ) → List (List ℕ) → Type 0
Uncovered ns os = (n : List ℕ) × Among os n × (Among ns n → ⊥)

-- the place of a name; or this fault, where it is not the name of a net
abbrev pub Numbers : List (List ℕ) → List ℕ → LoadFault → Result ℕ LoadFault → Type 0
Numbers ns n undefined (Ok k) = Among ns n × (k ≡ place_of ns n)
Numbers ns n undefined (Err e) = (e ≡ undefined) × (Among ns n → ⊥)

-- the places of the names behind what was there before; or this fault, where one is not the name of a net
abbrev pub Resolves : List (List ℕ) → List (List ℕ) → LoadFault → List ℕ → List ℕ → Result (Unit {0}) LoadFault → Type 0
Resolves ns os undefined before after (Ok _) = Covered ns os × (after ≡ before ++ map (place_of ns) os)
Resolves ns os undefined before after (Err e) = (e ≡ undefined) × Uncovered ns os
