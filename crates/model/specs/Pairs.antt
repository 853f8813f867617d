-- Sets of pairs (g, f): the bits that the good and the faulty circuit may carry at one place.
use Rattle.std.specs.Prelude.{◌≡◌, ℕ, ◌+◌, Bool, true, false, cond, not, ◌&&◌, ◌||◌}
use Rattle.std.specs.Bool.{beq}

abbrev pub Pairs : Type 0
Pairs = Bool → Bool → Bool

abbrev pub Has : Pairs → Bool → Bool → Type 0
Has s g f = s g f ≡ true

-- the set of one pair
abbrev pub only : Bool → Bool → Pairs
only a b g f = beq g a && beq f b

-- how many pairs the set has
abbrev pub size : Pairs → ℕ
size s = cond (s true true) 1 0 + cond (s true false) 1 0 + cond (s false true) 1 0 + cond (s false false) 1 0

-- nothing is left open: the set has just one pair
abbrev pub Decided : Pairs → Type 0
Decided s = size s ≡ 1

-- some pair of the set passes the test
abbrev pub some : (Bool → Bool → Bool) → Pairs → Bool
some p s =
    (s true true && p true true) || (s true false && p true false)
    || (s false true && p false true) || (s false false && p false false)

-- every pair of the set passes the test
abbrev pub every : (Bool → Bool → Bool) → Pairs → Bool
every p s = not (some (λ g f. not (p g f)) s)

-- what comes out of the pairs of a set where g goes through h and f through k
abbrev pub image : (Bool → Bool) → (Bool → Bool) → Pairs → Pairs
image h k s g f = some (λ a b. beq (h a) g && beq (k b) f) s

-- what comes out of the pairs of two sets where h joins the bits of both
abbrev pub image2 : (Bool → Bool → Bool) → Pairs → Pairs → Pairs
image2 h s t g f = some (λ a b. some (λ c d. beq (h a c) g && beq (h b d) f) t) s
