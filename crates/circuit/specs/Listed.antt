-- An order as tests that compute, for an invariant of a type (an invariant holds no data).
use Rattle.std.specs.Prelude.{◌≡◌, ℕ, ◌<◌, Bool, true, false, not, ◌&&◌, ◌||◌, List, [], ◌∷◌, length, take, ◌==◌, nat_lt, slice_index}
use Rattle.circuit.specs.Circuit.{Cell, operands_at}

-- k stands in the list
abbrev pub listed_in : ℕ → List ℕ → Bool
listed_in k [] = false
listed_in k (x ∷ xs) = x == k || listed_in k xs

-- all of js stand in the list
abbrev pub all_listed : List ℕ → List ℕ → Bool
all_listed [] xs = true
all_listed (j ∷ js) xs = listed_in j xs && all_listed js xs

-- net k may follow after the nets of the list: it is not there yet, and all that it reads is
abbrev pub may_follow : List Cell → List ℕ → ℕ → Bool
may_follow cells before k = nat_lt k (length cells) && not (listed_in k before) && all_listed (operands_at cells k) before

-- each net of the order may follow those before it
abbrev pub Follows : List Cell → List ℕ → Type 0
Follows cells order = (p : ℕ) → p < length order → may_follow cells (take p order) (slice_index order p) ≡ true

-- each net stands in the order
abbrev pub Complete : List Cell → List ℕ → Type 0
Complete cells order = (k : ℕ) → k < length cells → listed_in k order ≡ true
