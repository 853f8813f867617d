-- The first place of a key, from the last place of the table to its first.
use Rattle.std.proofs.Common.{◌≡◌, ℕ, ◌+◌, ◌<◌, ◌≤◌, List, length, get_or, arith}
use Rattle.std.proofs.lemmas.List.{drop_more, drop_all}
use Rattle.std.proofs.lemmas.Bool.{eq-eqb, ne_eqb}
use Rattle.chains.specs.Chains.{place_from}

module _ (keys : List ℕ) (k : ℕ) where
  pub place_end : place_from (length keys) k keys ≡ length keys
  place_end = grind (arith, drop_all (length keys) keys)

  pub place_here : (i : ℕ) → i < length keys → get_or keys i 0 ≡ k → place_from i k keys ≡ i
  place_here i l e = grind (arith, drop_more keys i 0 l, eq-eqb (get_or keys i 0) k e)

  pub place_later : (i : ℕ) → i < length keys → (get_or keys i 0 ≡ k → ⊥) → place_from i k keys ≡ place_from (i + 1) k keys
  place_later i l ne = grind (arith, drop_more keys i 0 l, ne_eqb (get_or keys i 0) k ne)

-- what a pass from the last place down to place at has left
pub record Linked (keys : List ℕ) (count : ℕ) (first next : List ℕ) (at : ℕ) : Type 0 where
  pub within : at ≤ length keys
  pub keyed : length first ≡ count
  pub sized : length next ≡ length keys
  pub firsts : (k : ℕ) → k < length first → get_or first k 0 ≡ place_from at k keys
  pub nexts : (i : ℕ) → at ≤ i → i < length keys → get_or next i 0 ≡ place_from (i + 1) (get_or keys i 0) keys
