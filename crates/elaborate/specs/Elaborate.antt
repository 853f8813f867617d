-- Which netlist the declarations stand for.
use Rattle.std.specs.Prelude.{ℕ, suc, ◌+◌, cond, List, [], ◌∷◌, ◌++◌, map, length}
use Rattle.std.specs.Str.{bytes_eq}
use Rattle.model.specs.declared.kind.Kind.{Kind}
use Rattle.model.specs.declared.kind.Kind.TheVariants.{And, Nand, Or, Nor, Xor, Xnor, Not, Buff}
use Rattle.model.specs.Kinds.{word}
use Rattle.grammar.specs.Grammar.{Statement}
use Rattle.grammar.specs.Rules.{Declaration, input_of, nets, inputs, outputs}
use Rattle.circuit.specs.Circuit.{Cell, Netlist}

-- the first place of a name in a list of names, and the list's length where it does not stand there
abbrev pub place_of : List (List ℕ) → List ℕ → ℕ
place_of [] n = 0
place_of (m ∷ ns) n = cond (bytes_eq m n) 0 (suc (place_of ns n))

-- the kind that a word names (any kind where it names none)
unfoldable pub kind_of : List ℕ → Kind
kind_of w =
    cond (bytes_eq w (word And)) And (
    cond (bytes_eq w (word Nand)) Nand (
    cond (bytes_eq w (word Or)) Or (
    cond (bytes_eq w (word Nor)) Nor (
    cond (bytes_eq w (word Xor)) Xor (
    cond (bytes_eq w (word Xnor)) Xnor (
    cond (bytes_eq w (word Not)) Not Buff))))))

-- the cell of the net that a statement defines: operands go by their places in names, and i inputs stand before it
abbrev pub cell_of : List (List ℕ) → ℕ → Statement → List Cell
cell_of names i (Statement.input n) = Cell.input i ∷ []
cell_of names i (Statement.output n) = []
cell_of names i (Statement.gate n k os) = Cell.gate (kind_of k) (map (place_of names) os) ∷ []

abbrev pub cells_with : List (List ℕ) → ℕ → List Declaration → List Cell
cells_with names i [] = []
cells_with names i (d ∷ ds) = cell_of names i d.says ++ cells_with names (i + length (input_of d.says)) ds

-- one cell for each net, in line order
abbrev pub cells_of : List Declaration → List Cell
cells_of ds = cells_with (nets ds) 0 ds

abbrev pub netlist_of : List Declaration → Netlist
netlist_of ds = record { inputs = length (inputs ds); cells = cells_of ds; outputs = map (place_of (nets ds)) (outputs ds) }
