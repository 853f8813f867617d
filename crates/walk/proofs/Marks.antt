-- Marks and lists, one change at a time.
use Rattle.std.proofs.Common.{◌≡◌, ℕ, ◌+◌, ◌<◌, Bool, cond, ◌⊎◌, List, [], ◌∷◌, ◌++◌, length, get_or, set, count_by, sym, ap, ◌∙◌, inl, inr, ⊎_elim, arith}
use Rattle.std.proofs.lemmas.List.{length_push, get_or-set_same, get_or-set_other, get_or_append_left, get_or_at, get_or_past}
use Rattle.std.proofs.lemmas.List.Sums.{sum_by-set}
use Rattle.std.proofs.lemmas.Bool.{cases_lt}
use Rattle.walk.specs.declared.mark.Mark.{Mark}
use Rattle.walk.specs.declared.mark.Mark.TheVariants.{New, Open, Done}
use Rattle.walk.specs.Walks.{mark_at}

pub new_not_open : (n : ℕ) → New ≡ Open n → ⊥
new_not_open n e = let z : ◌≡◌ {A = ℕ} 0 1 = cc in omega arith

pub open_not_done : (n : ℕ) → Open n ≡ Done → ⊥
open_not_done n e = let z : ◌≡◌ {A = ℕ} 0 1 = cc in omega arith

pub new_not_done : New ≡ Done → ⊥
new_not_done e = let z : ◌≡◌ {A = ℕ} 0 1 = cc in omega arith

pub same_open : (m n : ℕ) → Open m ≡ Open n → m ≡ n
same_open m n e = cc

-- a place of a list with one more at the end
pub at_push : (xs : List ℕ) (y i : ℕ) → i < length (xs ++ y ∷ []) →
    ((i < length xs) × (get_or (xs ++ y ∷ []) i 0 ≡ get_or xs i 0)) ⊎ ((i ≡ length xs) × (get_or (xs ++ y ∷ []) i 0 ≡ y))
at_push xs y i within = ⊎_elim
    (λ lt. inl (lt, get_or_append_left xs (y ∷ []) 0 i lt))
    (λ le. let e : i ≡ length xs = omega (arith, length_push xs y) in inr (e, get_or_at xs y [] 0 i (sym e)))
    (cases_lt i (length xs))

module _ (marks : List Mark) (x : ℕ) (new : Mark) where
  -- a net with another mark than x keeps it
  pub kept : (k : ℕ) (old m : Mark) → mark_at marks x ≡ old → (m ≡ old → ⊥) → mark_at marks k ≡ m → mark_at (set marks x new) k ≡ m
  kept k old m at other here = get_or-set_other marks x k new New (λ same. other (sym here ∙ ap (mark_at marks) same ∙ at)) ∙ here

  -- a net with another mark than the new one had it before, and is not x
  pub was : (k : ℕ) (m : Mark) → x < length marks → (m ≡ new → ⊥) → mark_at (set marks x new) k ≡ m → (mark_at marks k ≡ m) × (k ≡ x → ⊥)
  was k m within other here =
      let apart : k ≡ x → ⊥ = λ same. other (sym here ∙ ap (mark_at (set marks x new)) same ∙ get_or-set_same marks x new New within) in
      (sym (get_or-set_other marks x k new New apart) ∙ here, apart)

  pub marked : (k : ℕ) → x < length marks → k ≡ x → mark_at (set marks x new) k ≡ new
  marked k within same = ap (mark_at (set marks x new)) same ∙ get_or-set_same marks x new New within

  pub unmarked : (k : ℕ) → (k ≡ x → ⊥) → mark_at (set marks x new) k ≡ mark_at marks k
  unmarked k apart = get_or-set_other marks x k new New apart

  pub recount : (f : Mark → Bool) → x < length marks → count_by f (set marks x new) + cond (f (mark_at marks x)) 1 0 ≡ count_by f marks + cond (f new) 1 0
  recount f within = sum_by-set (λ m. cond (f m) 1 0) marks x new New within

-- what has a mark but New is within
pub within_mark : (marks : List Mark) (k : ℕ) (m : Mark) → (New ≡ m → ⊥) → mark_at marks k ≡ m → k < length marks
within_mark marks k m other here = ⊎_elim (λ lt. lt) (λ past. absurd (other (sym (get_or_past marks k New past) ∙ here))) (cases_lt k (length marks))
