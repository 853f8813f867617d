-- Five lines and their netlist, as a check on the definitions.
use Rattle.std.proofs.Common.{◌≡◌, List, [], ◌∷◌, codes, refl}
use Rattle.model.specs.declared.kind.Kind.TheVariants.{Nand, Buff}
use Rattle.grammar.specs.Grammar.{input, output, gate}
use Rattle.grammar.specs.Rules.{Declaration}
use Rattle.circuit.specs.Circuit.{Cell}
use Rattle.elaborate.specs.Elaborate.{kind_of, netlist_of}

-- y = NAND(b, x)   INPUT(a)   OUTPUT(y)   INPUT(b)   x = BUFF(a)
abbrev lines : List Declaration
lines =
    record { line = 1; says = gate (codes "y") (codes "NAND") (codes "b" ∷ codes "x" ∷ []) } ∷
    record { line = 2; says = input (codes "a") } ∷
    record { line = 3; says = output (codes "y") } ∷
    record { line = 5; says = input (codes "b") } ∷
    record { line = 6; says = gate (codes "x") (codes "BUFF") (codes "a" ∷ []) } ∷ []

example : netlist_of lines ≡ record { inputs = 2; cells = Cell.gate Nand (2 ∷ 3 ∷ []) ∷ Cell.input 0 ∷ Cell.input 1 ∷ Cell.gate Buff (1 ∷ []) ∷ []; outputs = 0 ∷ [] }
unfolding kind_of
example = refl
