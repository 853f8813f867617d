-- A rule of a table, proved at all of its entries by one test that antt computes, one entry after the other.
use Rattle.std.proofs.Common.{◌≡◌, ℕ, zero, suc, ◌+◌, ◌<◌, Bool, true, false, T, eqb, List, [], ◌∷◌, length, get_or, sym, ◌∙◌, subst, le_of_suc-le-suc, not-suc-le-zero, add-zero, add-suc, suc-add, zero-add, eqb→eq}

abbrev both : Bool → Bool → Bool
both true b = b
both false b = false

both_left : (a b : Bool) → T (both a b) → T a
both_left true b t = tt
both_left false b t = t

both_right : (a b : Bool) → T (both a b) → T b
both_right true b t = t
both_right false b t = absurd t

module _ (rule : ℕ → ℕ) where
  -- each entry is what the rule says of its place, counted from i
  abbrev pub follows : ℕ → List ℕ → Bool
  follows i [] = true
  follows i (x ∷ xs) = both (eqb x (rule i)) (follows (suc i) xs)

  from : (xs : List ℕ) (i : ℕ) → T (follows i xs) → (k : ℕ) → k < length xs → T (eqb (get_or xs k 0) (rule (i + k)))
  from [] i t k h = absurd (not-suc-le-zero h)
  from (x ∷ xs) i t zero h =
      subst (λ (m : ℕ). T (eqb x (rule m))) (sym (add-zero i)) (both_left (eqb x (rule i)) (follows (suc i) xs) t)
  from (x ∷ xs) i t (suc k) h =
      subst (λ (m : ℕ). T (eqb (get_or xs k 0) (rule m))) (suc-add i k ∙ sym (add-suc i k))
      (from xs (suc i) (both_right (eqb x (rule i)) (follows (suc i) xs) t) k (le_of_suc-le-suc h))

  -- the entry at k of a table of n entries, where the rule gives v
  pub entry : (n : ℕ) (xs : List ℕ) (k v : ℕ) → T (follows 0 xs) → n ≡ length xs → k < n → rule k ≡ v → get_or xs k 0 ≡ v
  entry n xs k v t e h r =
      eqb→eq _ _ (subst (λ (m : ℕ). T (eqb (get_or xs k 0) (rule m))) (zero-add k) (from xs 0 t k (subst (λ (m : ℕ). k < m) e h))) ∙ r
