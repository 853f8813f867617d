-- The rules that a line can break, each under the number of its refusal.
use Rattle.std.specs.Prelude.{◌≡◌, ℕ, ◌<◌, Bool, true, false, ◌||◌, List, [], ◌∷◌, ◌++◌, length, ◌≢◌, nat_lt, slice_index_or}
use Rattle.model.specs.declared.kind.Kind.{Kind}
use Rattle.model.specs.Kinds.{word, takes}
use Rattle.grammar.specs.Grammar.{Statement, input, output, gate, Spells, SaysNothing}

-- a statement and the number of its line
pub record Declaration : Type 0 where
  pub line : ℕ
  pub says : Statement

abbrev pub all_names : Statement → List (List ℕ)
all_names (input n) = n ∷ []
all_names (output n) = n ∷ []
all_names (gate n k os) = n ∷ (k ∷ os)

-- the net that a statement defines
abbrev pub net_of : Statement → List (List ℕ)
net_of (input n) = n ∷ []
net_of (output n) = []
net_of (gate n k os) = n ∷ []

abbrev pub input_of : Statement → List (List ℕ)
input_of (input n) = n ∷ []
input_of (output n) = []
input_of (gate n k os) = []

abbrev pub output_of : Statement → List (List ℕ)
output_of (input n) = []
output_of (output n) = n ∷ []
output_of (gate n k os) = []

abbrev pub pins_of : Statement → List (List ℕ)
pins_of (input n) = []
pins_of (output n) = []
pins_of (gate n k os) = os

-- Nets, inputs, outputs and pins are each numbered from 0 in line order: number i is the name at place i of these
-- lists.
abbrev pub gathered : (Statement → List (List ℕ)) → List Declaration → List (List ℕ)
gathered f [] = []
gathered f (d ∷ ds) = f d.says ++ gathered f ds

abbrev pub nets : List Declaration → List (List ℕ)
nets = gathered net_of

abbrev pub inputs : List Declaration → List (List ℕ)
inputs = gathered input_of

abbrev pub outputs : List Declaration → List (List ℕ)
outputs = gathered output_of

abbrev pub pins : List Declaration → List (List ℕ)
pins = gathered pins_of

abbrev pub Among : List (List ℕ) → List ℕ → Type 0
Among ns n = (i : ℕ) × (i < length ns) × (slice_index_or ns i [] ≡ n)

-- no statement stands in the line, and it is not silent either
abbrev pub NoStatement : List ℕ → Type 0
NoStatement line = (SaysNothing line → ⊥) × ((s : Statement) → Spells line s → ⊥)

-- one of the names has more than 16 bytes
abbrev pub any_long : List (List ℕ) → Bool
any_long [] = false
any_long (n ∷ ns) = nat_lt 16 (length n) || any_long ns

abbrev pub LongName : Statement → Type 0
LongName s = any_long (all_names s) ≡ true

abbrev pub UnknownKind : Statement → Type 0
UnknownKind (input n) = ⊥
UnknownKind (output n) = ⊥
UnknownKind (gate n k os) = (kind : Kind) → k ≢ word kind

-- a gate whose kind does not take so many operands
abbrev pub OperandCount : Statement → Type 0
OperandCount (input n) = ⊥
OperandCount (output n) = ⊥
OperandCount (gate n k os) = (kind : Kind) × (k ≡ word kind) × (takes kind (length os) ≡ false)

-- the net is defined before
abbrev pub Redefines : List Declaration → Statement → Type 0
Redefines ds (input n) = Among (nets ds) n
Redefines ds (output n) = ⊥
Redefines ds (gate n k os) = Among (nets ds) n

-- the output is listed before
abbrev pub Relists : List Declaration → Statement → Type 0
Relists ds (input n) = ⊥
Relists ds (output n) = Among (outputs ds) n
Relists ds (gate n k os) = ⊥

-- more than 2,048 nets, 8,192 pins, 64 inputs or 64 outputs
abbrev pub is_too_many : List Declaration → Bool
is_too_many ds = nat_lt 2048 (length (nets ds)) || (nat_lt 8192 (length (pins ds)) || (nat_lt 64 (length (inputs ds)) || nat_lt 64 (length (outputs ds))))

abbrev pub BeyondLimit : List Declaration → ℕ → Statement → Type 0
BeyondLimit ds k s = is_too_many (ds ++ record { line = k; says = s } ∷ []) ≡ true

-- After the declarations ds, line k breaks the rule of this number.
pub data Breaks (ds : List Declaration) (k : ℕ) (line : List ℕ) : ℕ → Type 0 where
  no_statement : NoStatement line → Breaks ds k line 3
  long_name : (s : Statement) → Spells line s → LongName s → Breaks ds k line 4
  unknown_kind : (s : Statement) → Spells line s → UnknownKind s → Breaks ds k line 5
  operand_count : (s : Statement) → Spells line s → OperandCount s → Breaks ds k line 6
  defined_before : (s : Statement) → Spells line s → Redefines ds s → Breaks ds k line 7
  listed_before : (s : Statement) → Spells line s → Relists ds s → Breaks ds k line 8
  beyond_limit : (s : Statement) → Spells line s → BeyondLimit ds k s → Breaks ds k line 9
