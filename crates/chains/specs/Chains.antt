-- Where a key stands in a table of keys.
use Rattle.std.specs.Prelude.{◌≡◌, ℕ, suc, ◌+◌, ◌<◌, cond, List, [], ◌∷◌, length, drop, ◌==◌, slice_index}

-- the first place of k, and the table's length where it does not stand there
abbrev pub first_place : ℕ → List ℕ → ℕ
first_place k [] = 0
first_place k (x ∷ xs) = cond (x == k) 0 (suc (first_place k xs))

-- the same from place i on
abbrev pub place_from : ℕ → ℕ → List ℕ → ℕ
place_from i k keys = i + first_place k (drop i keys)

-- first has the first place of each key
abbrev pub FirstPlaces : List ℕ → List ℕ → Type 0
FirstPlaces keys first = (k : ℕ) → k < length first → slice_index first k ≡ place_from 0 k keys

-- next has behind each place the next place with the same key
abbrev pub NextPlaces : List ℕ → List ℕ → Type 0
NextPlaces keys next = (i : ℕ) → i < length keys → slice_index next i ≡ place_from (i + 1) (slice_index keys i) keys

pub record Chained (keys : List ℕ) (count : ℕ) (first next : List ℕ) : Type 0 where
  pub keyed : length first ≡ count
  pub sized : length next ≡ length keys
  pub first_places : FirstPlaces keys first
  pub next_places : NextPlaces keys next
