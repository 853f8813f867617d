-- The lines of a text.
use Rattle.std.specs.Prelude.{ℕ, ◌-◌, cond, List, [], ◌∷◌, map, length, take, ◌==◌, slice_index}

-- a byte before the first line
abbrev pub before : ℕ → List (List ℕ) → List (List ℕ)
before b [] = (b ∷ []) ∷ []
before b (l ∷ ls) = (b ∷ l) ∷ ls

-- a line ends at byte 10 or at the text's end
abbrev pub cut : List ℕ → List (List ℕ)
cut [] = []
cut (b ∷ bs) = cond (b == 10) ([] ∷ cut bs) (before b (cut bs))

-- one byte 13 directly before a line's end is dropped
abbrev pub trimmed : List ℕ → List ℕ
trimmed l = cond (slice_index l (length l - 1) == 13) (take (length l - 1) l) l

unfoldable pub lines : List ℕ → List (List ℕ)
lines text = map trimmed (cut text)
