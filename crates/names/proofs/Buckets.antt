-- The buckets of an earlier table of names. Nothing uses them; the lemmas stand since docs/PORT.md names them.
use Rattle.std.proofs.Common.{◌≡◌, ℕ, zero, suc, ◌+◌, ◌-◌, ◌*◌, ◌%◌, ◌<◌, Bool, true, false, cond, eqb, List, [], ◌∷◌, length, get_or, drop, refl, sym, ap, ◌∙◌, arith, eqb-true}
use Rattle.std.specs.Prelude.{◌==◌, slice_index_or}
use Rattle.std.proofs.lemmas.List.{drop_more}

abbrev pub bucket_from : ℕ → List ℕ → ℕ
bucket_from h [] = h
bucket_from h (b ∷ bs) = bucket_from ((h * 31 + b) % 4096) bs

unfoldable pub bucket : List ℕ → ℕ
bucket name = bucket_from 0 name

-- one more than the last place below k whose name is in bucket b, or 0
abbrev pub last_in : List (List ℕ) → ℕ → ℕ → ℕ
last_in ns b zero = 0
last_in ns b (suc k) = cond (bucket (slice_index_or ns k []) == b) (suc k) (last_in ns b k)

pub bucket_more : (name : List ℕ) (h i : ℕ) → i < length name → bucket_from ((h * 31 + get_or name i 0) % 4096) (drop (i + 1) name) ≡ bucket_from h (drop i name)
bucket_more name h i l = ap (bucket_from h) (sym (drop_more name i 0 l))

module _ (ns : List (List ℕ)) (b : ℕ) where
  -- the last place in a bucket is in it
  pub last_is_inside : (k : ℕ) → 0 < last_in ns b k → bucket (get_or ns (last_in ns b k - 1) []) ≡ b
  last_is_inside zero h = absurd (omega (arith, h))
  last_is_inside (suc k) h = at (eqb (bucket (get_or ns k [])) b) refl h (last_is_inside k)
    where
      at : (t : Bool) → eqb (bucket (get_or ns k [])) b ≡ t → 0 < cond t (suc k) (last_in ns b k) → (0 < last_in ns b k → bucket (get_or ns (last_in ns b k - 1) []) ≡ b) → bucket (get_or ns (cond t (suc k) (last_in ns b k) - 1) []) ≡ b
      at true q m rec = let s : suc k - 1 ≡ k = omega arith in ap (λ (i : ℕ). bucket (get_or ns i [])) s ∙ eqb-true (bucket (get_or ns k [])) b q
      at false q m rec = rec m
