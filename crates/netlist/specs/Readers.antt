-- The readers of each net, net by net.
use Rattle.std.specs.Prelude.{◌≡◌, ℕ, ◌<◌, cond, List, [], ◌∷◌, ◌++◌, map, length, vec_items, slice_index_or, Vec}
use Rattle.std.specs.declared.alloc.Global.{Global}
use Rattle.circuit.specs.Circuit.{Cell}
use Rattle.circuit.specs.Listed.{listed_in}
use Rattle.circuit.specs.Readers.{readers_below, readers_of}

abbrev pub lists_in : List (Vec ℕ Global) → List (List ℕ)
lists_in vs = map (λ v. vec_items v) vs

-- the lists have, of each net, the readers below net n, and n where it is among what n reads so far
pub record ReadSoFar (cells : List Cell) (n : ℕ) (read : List ℕ) (vs : List (Vec ℕ Global)) : Type 0 where
  pub size : length vs ≡ length cells
  pub own : (j : ℕ) → j < length cells → slice_index_or (lists_in vs) j [] ≡ readers_below cells j n ++ cond (listed_in j read) (n ∷ []) []

-- the lists have the readers of each net
abbrev pub ListsReaders : List Cell → List (Vec ℕ Global) → Type 0
ListsReaders cells vs = (length vs ≡ length cells) × ((j : ℕ) → j < length cells → slice_index_or (lists_in vs) j [] ≡ readers_of cells j)
