-- What a stack holds, and what each call makes of it.
use Rattle.std.specs.Prelude.{◌≡◌, ℕ, List, [], ◌∷◌, ◌++◌, length, take, Some, None, Ok, Err, Option, Result}
use Rattle.model.specs.declared.full.Full.{Full}
use Rattle.cells.specs.declared.stack.Stack.{Stack}

-- the elements that a stack holds, the newest last
abbrev pub held : {X : Type 0} → Stack X → List X
held s = take s.len s.cells.now

-- how many elements it can hold
abbrev pub room : {X : Type 0} → Stack X → ℕ
room s = length s.cells.now

-- a new stack holds nothing, and has the cells as they are
abbrev pub Opened : {X : Type 0} → List X → Stack X → Type 0
Opened lent s = (held s ≡ []) × (s.cells.now ≡ lent)

-- x is on top of what was held; or the stack was full, and nothing changes
abbrev pub Pushed : {X U : Type 0} → Stack X → X → Result U Full → Stack X → Type 0
Pushed before x (Ok _) after = (held after ≡ held before ++ x ∷ []) × (room after ≡ room before)
Pushed before x (Err _) after = (length (held before) ≡ room before) × (after ≡ before)

-- the newest is taken off; or the stack was empty, and nothing changes
abbrev pub Popped : {X : Type 0} → Stack X → Option X → Stack X → Type 0
Popped before (Some x) after = (held before ≡ held after ++ x ∷ []) × (room after ≡ room before)
Popped before None after = (held before ≡ []) × (after ≡ before)

-- the newest, or none in an empty stack
abbrev pub Topped : {X : Type 0} → Stack X → Option X → Type 0
Topped {X} s (Some x) = (older : List X) × (held s ≡ older ++ x ∷ [])
Topped s None = held s ≡ []
