-- The buckets of the table of names. Only its invariant rests on this: no promise to a caller speaks of it.
use Rattle.std.specs.Prelude.{ℕ, zero, suc, ◌+◌, ◌*◌, ◌/◌, ◌%◌, ◌^◌, cond, List, [], ◌∷◌, ◌==◌, slice_index_or}

-- a number of 32 bits
abbrev pub hash_from : ℕ → List ℕ → ℕ
hash_from h [] = h
hash_from h (b ∷ bs) = hash_from ((h * 257 + b) % 2 ^ 32) bs

-- the highest 12 of 32 bits of a product, on which every bit of the number tells
unfoldable pub bucket : List ℕ → ℕ
bucket name = hash_from 0 name * 2654435769 % 2 ^ 32 / 2 ^ 20

-- one more than the last place below k whose name is in bucket b, or 0
abbrev pub last_in : List (List ℕ) → ℕ → ℕ → ℕ
last_in ns b zero = 0
last_in ns b (suc k) = cond (bucket (slice_index_or ns k []) == b) (suc k) (last_in ns b k)
