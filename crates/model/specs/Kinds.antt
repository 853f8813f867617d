-- How a kind of gate is written, and how many operands it takes.
use Rattle.std.specs.Prelude.{◌≡◌, ◌≢◌, ℕ, Bool, ◌&&◌, List, codes, ◌==◌, nat_le, Ok, Err, Result}
use Rattle.model.specs.declared.kind.Kind.{Kind}
use Rattle.model.specs.declared.kind.Kind.TheVariants.{And, Nand, Or, Nor, Xor, Xnor, Not, Buff}
use Rattle.model.specs.declared.kind.UnknownKind.{UnknownKind}

-- the kinds as they are written
abbrev pub word : Kind → List ℕ
word And = codes "AND"
word Nand = codes "NAND"
word Or = codes "OR"
word Nor = codes "NOR"
word Xor = codes "XOR"
word Xnor = codes "XNOR"
word Not = codes "NOT"
word Buff = codes "BUFF"

abbrev pub several_operands : ℕ → Bool
several_operands n = nat_le 2 n && nat_le n 16

-- NOT and BUFF take one operand, the others 2 to 16
abbrev pub takes : Kind → ℕ → Bool
takes And n = several_operands n
takes Nand n = several_operands n
takes Or n = several_operands n
takes Nor n = several_operands n
takes Xor n = several_operands n
takes Xnor n = several_operands n
takes Not n = n == 1
takes Buff n = n == 1

-- the bytes are those of this kind, or of none
abbrev pub Spelled : List ℕ → Result Kind UnknownKind → Type 0
Spelled w (Ok k) = w ≡ word k
Spelled w (Err _) = (k : Kind) → w ≢ word k
