-- A netlist, its faults, and what a net carries: one evaluation over any operations.
use Rattle.std.specs.Prelude.{◌≡◌, ℕ, zero, suc, ◌+◌, ◌<◌, Bool, false, cond, not, ◌&&◌, ◌||◌, List, [], ◌∷◌, length, ◌==◌, ◌≢◌, slice_index, slice_index_or}
use Rattle.model.specs.declared.kind.Kind.{Kind}
use Rattle.model.specs.declared.kind.Kind.TheVariants.{And, Nand, Or, Nor, Xor, Xnor, Not, Buff}
use Rattle.model.specs.Bits.{bit, differ}
use Rattle.model.specs.Operations.{Ops}

-- what defines a net: an input by its number, or a gate by its kind and the nets that it reads
pub data Cell : Type 0 where
  input : ℕ → Cell
  gate : Kind → List ℕ → Cell

pub record Netlist : Type 0 where
  pub inputs : ℕ
  pub cells : List Cell
  pub outputs : List ℕ

abbrev pub operands_of : Cell → List ℕ
operands_of (input i) = []
operands_of (gate kind js) = js

-- past the last net there is nothing that reads a net
abbrev pub cell_in : List Cell → ℕ → Cell
cell_in cells k = slice_index_or cells k (input 0)

abbrev pub operands_at : List Cell → ℕ → List ℕ
operands_at cells k = operands_of (cell_in cells k)

-- net k has net j as an operand, at some place
abbrev pub ReadsIn : List Cell → ℕ → ℕ → Type 0
ReadsIn cells k j = (p : ℕ) × (p < length (operands_at cells k)) × (slice_index (operands_at cells k) p ≡ j)

abbrev pub IsNet : Netlist → ℕ → Type 0
IsNet c k = k < length c.cells

abbrev pub IsOutput : Netlist → ℕ → Type 0
IsOutput c k = (o : ℕ) × (o < length c.outputs) × (slice_index c.outputs o ≡ k)

-- how many operand places the cells have
abbrev pub pin_count : List Cell → ℕ
pin_count [] = 0
pin_count (cell ∷ cells) = length (operands_of cell) + pin_count cells

-- a stem fault fixes a net at v for all its readers and as an output; a pin fault fixes what one gate sees at one place
pub data Fault : Type 0 where
  none : Fault
  stem : ℕ → Bool → Fault
  pin : ℕ → ℕ → Bool → Fault

-- what a fault makes of the value x of net k, and of what net k sees at place p
abbrev pub at_stem : {V : Type 0} → Ops V → Fault → ℕ → V → V
at_stem ops none k x = x
at_stem ops (stem s v) k x = cond (s == k) (ops.stuck v x) x
at_stem ops (pin g q v) k x = x

abbrev pub at_pin : {V : Type 0} → Ops V → Fault → ℕ → ℕ → V → V
at_pin ops none k p x = x
at_pin ops (stem s v) k p x = x
at_pin ops (pin g q v) k p x = cond (g == k && q == p) (ops.stuck v x) x

-- what net k sees at its operands from place p on
abbrev pub seen : {V : Type 0} → Ops V → Fault → (ℕ → V) → ℕ → ℕ → List ℕ → List V
seen ops φ val k p [] = []
seen ops φ val k p (j ∷ js) = at_pin ops φ k p (val j) ∷ seen ops φ val k (suc p) js

-- a gate combines its operands from left to right by AND, OR or XOR
abbrev pub joins : {V : Type 0} → Ops V → Kind → V → V → V
joins ops And x y = ops.and x y
joins ops Nand x y = ops.and x y
joins ops Or x y = ops.or x y
joins ops Nor x y = ops.or x y
joins ops Xor x y = ops.xor x y
joins ops Xnor x y = ops.xor x y
joins ops Not x y = x
joins ops Buff x y = x

-- NAND, NOR and XNOR invert the end result, and NOT its operand
abbrev pub ends : {V : Type 0} → Ops V → Kind → V → V
ends ops And x = x
ends ops Nand x = ops.inv x
ends ops Or x = x
ends ops Nor x = ops.inv x
ends ops Xor x = x
ends ops Xnor x = ops.inv x
ends ops Not x = ops.inv x
ends ops Buff x = x

abbrev pub joined : {V : Type 0} → Ops V → Kind → V → List V → V
joined ops kind x [] = x
joined ops kind x (y ∷ ys) = joined ops kind (joins ops kind x y) ys

-- (a gate has at least one operand)
abbrev pub combined : {V : Type 0} → Ops V → Kind → List V → V
combined ops kind [] = ops.load 0
combined ops kind (x ∷ xs) = ends ops kind (joined ops kind x xs)

abbrev pub cell_value : {V : Type 0} → Ops V → Fault → (ℕ → V) → (ℕ → V) → ℕ → Cell → V
cell_value ops φ drive val k (input i) = drive i
cell_value ops φ drive val k (gate kind js) = combined ops kind (seen ops φ val k 0 js)

-- what net k carries, from what all nets carry; drive is what the inputs are given
abbrev pub net_value : {V : Type 0} → Ops V → Netlist → Fault → (ℕ → V) → (ℕ → V) → ℕ → V
net_value ops c φ drive val k = at_stem ops φ k (cell_value ops φ drive val k (cell_in c.cells k))

-- one equation for each net: val is what the nets carry
abbrev pub Carries : {V : Type 0} → Ops V → Netlist → Fault → (ℕ → V) → (ℕ → V) → Type 0
Carries ops c φ drive val = (k : ℕ) → IsNet c k → val k ≡ net_value ops c φ drive val k

-- what net k carries, by so many rounds over the netlist
unfoldable pub settled : {V : Type 0} → Ops V → Netlist → Fault → (ℕ → V) → ℕ → ℕ → V
settled ops c φ drive zero k = ops.load 0
settled ops c φ drive (suc n) k = net_value ops c φ drive (settled ops c φ drive n) k

-- what net k carries: in an ordered netlist this is the one solution of the equations
unfoldable pub value : {V : Type 0} → Ops V → Netlist → Fault → (ℕ → V) → ℕ → V
value ops c φ drive k = settled ops c φ drive (length c.cells) k

-- the operations of a plain circuit, whose stuck places carry v
abbrev pub plain : Ops Bool
plain = record { load = λ w. bit w 0; inv = not; and = ◌&&◌; or = ◌||◌; xor = differ; stuck = λ v _. v }

-- a vector is a word whose bit i is input i
unfoldable pub good : Netlist → ℕ → ℕ → Bool
good c v k = value plain c none (bit v) k

unfoldable pub faulty : Netlist → Fault → ℕ → ℕ → Bool
faulty c φ v k = value plain c φ (bit v) k

-- The vector v is a test of φ: good and faulty circuit differ at an output.
abbrev pub Tests : Netlist → Fault → ℕ → Type 0
Tests c φ v = (k : ℕ) × IsOutput c k × (good c v k ≢ faulty c φ v k)

-- good and faulty circuit differ at one of these nets
abbrev pub differ_in : Netlist → Fault → ℕ → List ℕ → Bool
differ_in c φ v [] = false
differ_in c φ v (k ∷ ks) = differ (good c v k) (faulty c φ v k) || differ_in c φ v ks

-- whether v is a test of φ
unfoldable pub tests : Netlist → Fault → ℕ → Bool
tests c φ v = differ_in c φ v c.outputs
