-- Which nets read a net.
use Rattle.std.specs.Prelude.{◌≡◌, ◌↔◌, ℕ, zero, suc, true, cond, List, [], ◌∷◌, ◌++◌, length}
use Rattle.circuit.specs.Circuit.{Cell, ReadsIn, operands_at}
use Rattle.circuit.specs.Listed.{listed_in}

-- the nets below n that read net j, in line order
abbrev pub readers_below : List Cell → ℕ → ℕ → List ℕ
readers_below cells j zero = []
readers_below cells j (suc n) = readers_below cells j n ++ cond (listed_in j (operands_at cells n)) (n ∷ []) []

-- the nets that read net j, in line order, each once
abbrev pub readers_of : List Cell → ℕ → List ℕ
readers_of cells j = readers_below cells j (length cells)

-- `readers_of` lists exactly the nets that read it
abbrev pub ReadersAreThoseThatRead : Type 0
ReadersAreThoseThatRead = (cells : List Cell) (j k : ℕ) → (listed_in k (readers_of cells j) ≡ true) ↔ ReadsIn cells k j
