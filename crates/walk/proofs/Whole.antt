-- The walk's start and end.
use Rattle.std.proofs.Common.{◌≡◌, ℕ, zero, suc, ◌+◌, ◌<◌, ◌≤◌, Bool, false, List, [], length, take, count_by, sym, refl, ap, ◌∙◌, subst, ⊎_elim, arith, below_more}
use Rattle.std.proofs.lemmas.List.{take_all, get_or_past}
use Rattle.std.proofs.lemmas.List.Sums.{count_by_more_no}
use Rattle.std.proofs.lemmas.Bool.{cases_lt}
use Rattle.circuit.specs.Circuit.{Cell}
use Rattle.circuit.specs.Circles.{DependsOnCircle, FirstDependent}
use Rattle.walk.specs.declared.mark.Mark.{Mark}
use Rattle.walk.specs.declared.mark.Mark.TheVariants.{New, Open, Done}
use Rattle.walk.specs.Walks.{mark_at, is_open, is_done, Walk}
use Rattle.walk.proofs.Marks.{new_not_open, new_not_done}
use Rattle.walk.proofs.Walking.{done_free}

count_none : (f : Mark → Bool) → f New ≡ false → (marks : List Mark) → ((k : ℕ) → mark_at marks k ≡ New) → (n : ℕ) → n ≤ length marks → count_by f (take n marks) ≡ 0
count_none f no-new marks all zero le = refl
count_none f no-new marks all (suc n) le =
    let same : count_by f (take (n + 1) marks) ≡ count_by f (take n marks) = count_by_more_no f marks n New (omega arith) (ap f (all n) ∙ no-new) in
    let next : suc n ≡ n + 1 = omega arith in
    ap (λ z. count_by f (take z marks)) next ∙ same ∙ count_none f no-new marks all n (omega arith)

module _ (cells : List Cell) where
  pub fresh : (order : List ℕ) (marks : List Mark) → order ≡ [] → length marks ≡ length cells → ((k : ℕ) → k < length marks → mark_at marks k ≡ New) → Walk cells order [] marks
  fresh order marks none size below = subst (λ z. Walk cells z [] marks) (sym none) (record {
    size = size;
    met = λ k left e. absurd (new_not_open left (sym (all k) ∙ e));
    entered = λ i lt. absurd (omega arith);
    chain = λ i j less lt. absurd (omega arith);
    place = λ k. k;
    done = λ k e. absurd (new_not_done (sym (all k) ∙ e));
    listed = λ p lt. absurd (omega arith);
    once = λ p lt. absurd (omega arith);
    behind = λ p j lt reads. absurd (omega arith);
    opens = sym (ap (count_by is_open) (sym (take_all (length marks) marks (omega arith))) ∙ count_none is_open refl marks all (length marks) (omega arith));
    dones = sym (ap (count_by is_done) (sym (take_all (length marks) marks (omega arith))) ∙ count_none is_done refl marks all (length marks) (omega arith));
  })
    where
      all : (k : ℕ) → mark_at marks k ≡ New
      all k = ⊎_elim (λ lt. below k lt) (λ past. get_or_past marks k New past) (cases_lt k (length marks))

  -- between two walks a net that is not new is done
  pub done_or_new : (order : List ℕ) (marks : List Mark) (k : ℕ) → Walk cells order [] marks → (mark_at marks k ≡ New → ⊥) → mark_at marks k ≡ Done
  done_or_new order marks k w other = at (mark_at marks k) refl
    where
      at : (m : Mark) → mark_at marks k ≡ m → mark_at marks k ≡ Done
      at New e = absurd (other e)
      at (Open left) e = let none : 0 < 0 = omega (arith, (w.met k left e).1) in absurd (omega arith)
      at Done e = e

  pub first_found : (order : List ℕ) (marks : List Mark) (k : ℕ) → Walk cells order [] marks → k < length cells → ((j : ℕ) → j < k → mark_at marks j ≡ Done) → DependsOnCircle cells k → FirstDependent cells k
  first_found order marks k w within before depends = (within, depends, λ j less. done_free cells order [] marks w j (before j less))

  -- one net more is done
  pub next_done : (order' order : List ℕ) (marks' marks : List Mark) (k : ℕ) → order' ≡ order → marks' ≡ marks → Walk cells order [] marks → ((j : ℕ) → j < k → mark_at marks j ≡ Done) → mark_at marks k ≡ Done →
      Walk cells order' [] marks' × ((j : ℕ) → j < k + 1 → mark_at marks' j ≡ Done)
  next_done order' order marks' marks k same-order same-marks w before here = (
    subst (λ z. Walk cells z [] marks') (sym same-order) (subst (λ z. Walk cells order [] z) (sym same-marks) w),
    subst (λ z. (j : ℕ) → j < k + 1 → mark_at z j ≡ Done) (sym same-marks) (below_more _ _ before here),
  )
