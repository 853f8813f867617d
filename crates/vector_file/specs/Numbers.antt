-- A number in groups of seven bits, lowest first.
use Rattle.std.specs.Prelude.{ℕ, zero, suc, ◌+◌, ◌/◌, ◌%◌, cond, List, [], ◌∷◌, nat_lt}
use Rattle.std.specs.List.{flat_map}

-- bit 7 is set in every byte but the last; the first argument bounds how many bytes stand before the last
abbrev pub groups : ℕ → ℕ → List ℕ
groups zero n = n ∷ []
groups (suc k) n = cond (nat_lt n 128) (n ∷ []) ((n % 128 + 128) ∷ groups k (n / 128))

-- the shortest writing: n bytes before the last are always enough
unfoldable pub number_bytes : ℕ → List ℕ
number_bytes n = groups n n

-- numbers one behind the other
abbrev pub numbers_bytes : List ℕ → List ℕ
numbers_bytes ns = flat_map number_bytes ns
