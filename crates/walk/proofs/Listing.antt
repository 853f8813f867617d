-- An order, and the tests that say so: each net may follow those before it, and every net is listed.
use Rattle.std.proofs.Common.{◌≡◌, ℕ, zero, suc, ◌<◌, ◌≤◌, true, false, cond, not, ◌&&◌, eqb, ltb, List, [], ◌∷◌, length, get_or, take, sym, refl, ap, ◌∙◌, subst, ⊎_elim, arith}
use Rattle.std.proofs.lemmas.List.{get_or-take, length-take-le}
use Rattle.std.proofs.lemmas.Bool.{cases_eq, cases_lt, cases_Bool, lt-ltb, ltb-true, eq-eqb, ne_eqb, cond-true, cond-false, eqb-true, and_parts, and_from, or_cases, or_left, or_right, not-true, not_from_false, both_ways}
use Rattle.circuit.specs.Circuit.{Cell, operands_at}
use Rattle.circuit.specs.Circles.{Sorted}
use Rattle.circuit.specs.Listed.{listed_in, all_listed, Follows, Complete}

at_listed : (xs : List ℕ) (k p : ℕ) → p < length xs → get_or xs p 0 ≡ k → listed_in k xs ≡ true
at_listed [] k p lt e = absurd (omega arith)
at_listed (x ∷ xs) k zero lt e = or_left (eqb x k) (listed_in k xs) (eq-eqb x k e)
at_listed (x ∷ xs) k (suc p) lt e = or_right (eqb x k) (listed_in k xs) (at_listed xs k p (omega arith) e)

place_in : List ℕ → ℕ → ℕ
place_in [] k = 0
place_in (x ∷ xs) k = cond (eqb x k) 0 (suc (place_in xs k))

-- the first place of k
first_place_lem : (xs : List ℕ) (k : ℕ) → listed_in k xs ≡ true → (p : ℕ) × (p < length xs) × (get_or xs p 0 ≡ k) × ((q : ℕ) → q < length xs → get_or xs q 0 ≡ k → p ≤ q) × (place_in xs k ≡ p)
unfolding place_in
first_place_lem [] k listed = let z : ◌≡◌ {A = ℕ} 0 1 = cc in absurd (omega arith)
first_place_lem (x ∷ xs) k listed = ⊎_elim
    (λ same. (0, omega arith, same, (λ q lt e. omega arith), cond-true (eqb x k) 0 (suc (place_in xs k)) (eq-eqb x k same)))
    (λ other. ⊎_elim
    (λ same. absurd (other (eqb-true x k same)))
    (λ rest. let (p, lt, at, first, is) = first_place_lem xs k rest in (suc p, omega arith, at, (λ q less e. later p first other q less e), cond-false (eqb x k) 0 (suc (place_in xs k)) (ne_eqb x k other) ∙ ap suc is))
    (or_cases (eqb x k) (listed_in k xs) listed))
    (cases_eq x k)
  where
    later : (p : ℕ) → ((q : ℕ) → q < length xs → get_or xs q 0 ≡ k → p ≤ q) → (x ≡ k → ⊥) → (q : ℕ) → q < suc (length xs) → get_or (x ∷ xs) q 0 ≡ k → suc p ≤ q
    later p first other zero less e = absurd (other e)
    later p first other (suc q) less e = omega (arith, first q (omega arith) e)

all_at : (js xs : List ℕ) → all_listed js xs ≡ true → (q : ℕ) → q < length js → listed_in (get_or js q 0) xs ≡ true
all_at [] xs all q lt = absurd (omega arith)
all_at (j ∷ js) xs all zero lt = (and_parts (listed_in j xs) (all_listed js xs) all).0
all_at (j ∷ js) xs all (suc q) lt = all_at js xs (and_parts (listed_in j xs) (all_listed js xs) all).1 q (omega arith)

all_from : (js xs : List ℕ) → ((q : ℕ) → q < length js → listed_in (get_or js q 0) xs ≡ true) → all_listed js xs ≡ true
all_from [] xs each = refl
all_from (j ∷ js) xs each = and_from (listed_in j xs) (all_listed js xs) (each 0 (omega arith)) (all_from js xs (λ q lt. each (suc q) (omega arith)))

-- k is in the first p of the list exactly when it has a place below p
front_place : (xs : List ℕ) (p k : ℕ) → p ≤ length xs → listed_in k (take p xs) ≡ true → (q : ℕ) × (q < p) × (get_or xs q 0 ≡ k)
front_place xs p k le listed =
    let (q, lt, at, first, is) = first_place_lem (take p xs) k listed in
    let less : q < p = omega (arith, length-take-le p xs le) in
    (q, less, sym (get_or-take p xs q 0 less) ∙ at)

place_front : (xs : List ℕ) (p k q : ℕ) → p ≤ length xs → q < p → get_or xs q 0 ≡ k → listed_in k (take p xs) ≡ true
place_front xs p k q le less at = at_listed (take p xs) k q (omega (arith, length-take-le p xs le)) (get_or-take p xs q 0 less ∙ at)

module _ (cells : List Cell) (order : List ℕ) where
  pub sorted_follows : Sorted cells order → Follows cells order
  sorted_follows good p lt =
      let k = get_or order p 0 in
      and_from (ltb k (length cells) && not (listed_in k (take p order))) (all_listed (operands_at cells k) (take p order))
      (and_from (ltb k (length cells)) (not (listed_in k (take p order))) (lt-ltb k (length cells) (good.nets p lt)) (not_from_false (listed_in k (take p order)) unlisted))
      (all_from (operands_at cells k) (take p order) (λ q under. let j = get_or (operands_at cells k) q 0 in
      let behind = good.behind p j lt (q, under, refl) in
      place_front order p j (good.place j) (omega arith) behind.1 (good.placed j behind.0).1))
    where
      twice : (q : ℕ) × (q < p) × (get_or order q 0 ≡ get_or order p 0) → ⊥
      twice (q, less, same) = let e = sym (good.once q (omega arith)) ∙ ap good.place same ∙ good.once p lt in omega arith

      unlisted : listed_in (get_or order p 0) (take p order) ≡ false
      unlisted = ⊎_elim (λ listed. absurd (twice (front_place order p (get_or order p 0) (omega arith) listed))) (λ e. e) (cases_Bool (listed_in (get_or order p 0) (take p order)))

  pub sorted_complete : Sorted cells order → Complete cells order
  sorted_complete good k lt = at_listed order k (good.place k) (good.placed k lt).0 (good.placed k lt).1

  follow_parts : Follows cells order → (p : ℕ) → p < length order → (get_or order p 0 < length cells) × (listed_in (get_or order p 0) (take p order) ≡ false) × (all_listed (operands_at cells (get_or order p 0)) (take p order) ≡ true)
  follow_parts follows p lt =
      let (ab, c) = and_parts (ltb (get_or order p 0) (length cells) && not (listed_in (get_or order p 0) (take p order))) (all_listed (operands_at cells (get_or order p 0)) (take p order)) (follows p lt) in
      let (a, b) = and_parts (ltb (get_or order p 0) (length cells)) (not (listed_in (get_or order p 0) (take p order))) ab in
      (ltb-true (get_or order p 0) (length cells) a, not-true (listed_in (get_or order p 0) (take p order)) b, c)

  pub listed_sorted : length order ≡ length cells → Follows cells order → Complete cells order → Sorted cells order
  listed_sorted size follows complete = record {
    size = size;
    nets = λ p lt. (follow_parts follows p lt).0;
    place = place;
    placed = λ k lt. let (p, less, at, first, is) = first_place_lem order k (complete k lt) in (omega arith, ap (λ z. get_or order z 0) is ∙ at);
    once = λ p lt.
        let (q, less, at, first, is) = first_place_lem order (get_or order p 0) (at_listed order (get_or order p 0) p lt refl) in
        is ∙ ⊎_elim
        (λ before. absurd (both_ways (listed_in (get_or order p 0) (take p order)) (follow_parts follows p lt).1 (place_front order p (get_or order p 0) q (omega arith) before at)))
        (λ after. omega (arith, first p lt refl))
        (cases_lt q p);
    behind = λ p j lt (o, under, at).
        let listed = subst (λ z. listed_in z (take p order) ≡ true) at (all_at (operands_at cells (get_or order p 0)) (take p order) (follow_parts follows p lt).2 o under) in
        let (q, less, here) = front_place order p j (omega arith) listed in
        let (r, low, there, first, is) = first_place_lem order j (at_listed order j q (omega arith) here) in
        (subst (λ z. z < length cells) here (follow_parts follows q (omega arith)).0, omega (arith, first q (omega arith) here));
  }
    where
      place : ℕ → ℕ
      place k = place_in order k
