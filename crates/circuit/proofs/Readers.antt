-- The readers of a net are the nets that read it.
use Rattle.std.proofs.Common.{◌≡◌, ℕ, zero, suc, ◌-◌, ◌<◌, Bool, true, false, ◌&&◌, ◌⊎◌, cond, List, [], ◌∷◌, ◌++◌, length, get_or, drop, sym, refl, subst, inl, inr, ◌∙◌, ap, eqb, arith, ⊎_elim}
use Rattle.std.specs.List.{ends_with}
use lib.Pointwise.{pointwise}
use Rattle.std.proofs.Math.Seq.{drop-append_seam}
use Rattle.std.proofs.lemmas.Bool.{false≢true, or_cases, or_left, or_right, and_parts, and_from, eqb-true, eq-eqb, cases_lt, false_from_ne_true}
use Rattle.std.proofs.lemmas.List.{append-nil, length-append, get_or_past}
use Rattle.circuit.specs.Circuit.{Cell, ReadsIn, cell_in, operands_at, operands_of, input}
use Rattle.circuit.specs.Listed.{listed_in}
use Rattle.circuit.specs.Readers.{readers_below, readers_of}

-- k stands in a list exactly where it stands at some place
pub listed-at : (k : ℕ) (xs : List ℕ) → listed_in k xs ≡ true → (p : ℕ) × (p < length xs) × (get_or xs p 0 ≡ k)
listed-at k [] h = absurd (false≢true h)
listed-at k (x ∷ xs) h = ⊎_elim (λ e. (0, omega arith, eqb-true x k e)) (λ m. let (p, within, is) = listed-at k xs m in (suc p, omega arith, is)) (or_cases (eqb x k) (listed_in k xs) h)

pub at-listed : (k : ℕ) (xs : List ℕ) (p : ℕ) → p < length xs → get_or xs p 0 ≡ k → listed_in k xs ≡ true
at-listed k [] p l e = absurd (omega arith)
at-listed k (x ∷ xs) zero l e = or_left _ _ (eq-eqb x k e)
at-listed k (x ∷ xs) (suc p) l e = or_right (eqb x k) _ (at-listed k xs p (omega arith) e)

listed_front : (k : ℕ) (xs ys : List ℕ) → listed_in k xs ≡ true → listed_in k (xs ++ ys) ≡ true
listed_front k [] ys h = absurd (false≢true h)
listed_front k (x ∷ xs) ys h = ⊎_elim (λ e. or_left _ _ e) (λ m. or_right (eqb x k) _ (listed_front k xs ys m)) (or_cases (eqb x k) (listed_in k xs) h)

listed_back : (k : ℕ) (xs ys : List ℕ) → listed_in k ys ≡ true → listed_in k (xs ++ ys) ≡ true
listed_back k [] ys h = h
listed_back k (x ∷ xs) ys h = or_right (eqb x k) _ (listed_back k xs ys h)

listed_parts : (k : ℕ) (xs ys : List ℕ) → listed_in k (xs ++ ys) ≡ true → (listed_in k xs ≡ true) ⊎ (listed_in k ys ≡ true)
listed_parts k [] ys h = inr h
listed_parts k (x ∷ xs) ys h =
    ⊎_elim (λ e. inl (or_left _ _ e)) (λ m. ⊎_elim (λ a. inl (or_right (eqb x k) _ a)) (λ b. inr b) (listed_parts k xs ys m)) (or_cases (eqb x k) (listed_in k (xs ++ ys)) h)

-- a net alone, where the test says so
alone : (k n : ℕ) (t : Bool) → listed_in k (cond t (n ∷ []) []) ≡ true → (t ≡ true) × (n ≡ k)
alone k n true h = (refl, ⊎_elim (λ e. eqb-true n k e) (λ z. absurd (false≢true z)) (or_cases (eqb n k) false h))
alone k n false h = absurd (false≢true h)

alone_there : (n : ℕ) (t : Bool) → t ≡ true → listed_in n (cond t (n ∷ []) []) ≡ true
alone_there n true h = or_left _ _ (eq-eqb n n refl)
alone_there n false h = absurd (false≢true h)

module _ (cells : List Cell) (j : ℕ) where
  pub read_below : (n k : ℕ) → listed_in k (readers_below cells j n) ≡ true → (k < n) × ReadsIn cells k j
  read_below zero k h = absurd (false≢true h)
  read_below (suc n) k h =
      ⊎_elim (λ a. let b = read_below n k a in (omega (arith, b.0), b.1)) (λ a.
      let (t, e) = alone k n (listed_in j (operands_at cells n)) a in
      let P : ℕ → Type 0 = λ m. ReadsIn cells m j in
      (omega (arith, e), subst P e (listed-at j (operands_at cells n) t))) (listed_parts k (readers_below cells j n) _ h)

  below_read : (n k : ℕ) → k < n → ReadsIn cells k j → listed_in k (readers_below cells j n) ≡ true
  below_read zero k l r = absurd (omega arith)
  below_read (suc n) k l r =
      ⊎_elim (λ a. listed_front k (readers_below cells j n) _ (below_read n k a r)) (λ a.
      let e : n ≡ k = omega arith in
      let there = at-listed j (operands_at cells k) r.0 r.1 r.2 in
      let P : ℕ → Type 0 = λ m. listed_in m (readers_below cells j n ++ cond (listed_in j (operands_at cells n)) (n ∷ []) []) ≡ true in
      subst P e (listed_back n (readers_below cells j n) _ (alone_there n _ (subst (λ (m : ℕ). listed_in j (operands_at cells m) ≡ true) (sym e) there)))) (cases_lt k n)

  pub readers-read : (k : ℕ) → listed_in k (readers_of cells j) ≡ true → ReadsIn cells k j
  readers-read k h = (read_below (length cells) k h).1

  -- (past the last net nothing reads)
  pub read-readers : (k : ℕ) → ReadsIn cells k j → listed_in k (readers_of cells j) ≡ true
  read-readers k r =
      ⊎_elim (λ l. below_read (length cells) k l r) (λ l.
      let none : operands_at cells k ≡ [] = ap operands_of (get_or_past cells k (input 0) l) in
      absurd (omega (arith, r.1, ap length none))) (cases_lt k (length cells))

-- one net more, in the list of what net n reads
pub listed_here : (j : ℕ) (read : List ℕ) → listed_in j (read ++ j ∷ []) ≡ true
listed_here j read = listed_back j read (j ∷ []) (or_left _ _ (eq-eqb j j refl))

pub listed_elsewhere : (j k : ℕ) (read : List ℕ) → (k ≡ j → ⊥) → listed_in j (read ++ k ∷ []) ≡ listed_in j read
listed_elsewhere j k read apart = at (listed_in j read) refl
  where
    at : (t : Bool) → listed_in j read ≡ t → listed_in j (read ++ k ∷ []) ≡ listed_in j read
    at true h = listed_front j read (k ∷ []) h ∙ sym h
    at false h = false_from_ne_true _ (λ m. ⊎_elim (λ a. false≢true (sym h ∙ a)) (λ b. ⊎_elim (λ e. apart (eqb-true k j e)) false≢true (or_cases (eqb k j) false b)) (listed_parts j read (k ∷ []) m)) ∙ sym h

-- whether a list of nets below n, and n behind it where t says so, ends in n
last_alone : (x : ℕ) (xs : List ℕ) → drop (length xs) (x ∷ xs) ≡ get_or (x ∷ xs) (length xs) 0 ∷ []
last_alone x [] = refl
last_alone x (y ∷ ys) = last_alone y ys

ends_there : (xs : List ℕ) (n : ℕ) → ends_with eqb (xs ++ n ∷ []) (n ∷ []) ≡ true
ends_there xs n =
    let e : length (xs ++ n ∷ []) - 1 ≡ length xs = omega (arith, length-append xs (n ∷ [])) in
    ap (λ (d : ℕ). pointwise eqb (n ∷ []) (drop d (xs ++ n ∷ []))) e ∙ ap (pointwise eqb (n ∷ [])) (drop-append_seam xs (n ∷ [])) ∙ and_from (eqb n n) true (eq-eqb n n refl) refl

ends_lower : (xs : List ℕ) (n : ℕ) → ((p : ℕ) → p < length xs → get_or xs p 0 < n) → ends_with eqb xs (n ∷ []) ≡ false
ends_lower [] n below = refl
ends_lower (x ∷ xs) n below =
    let last = get_or (x ∷ xs) (length xs) 0 in
    let e : length (x ∷ xs) - 1 ≡ length xs = omega arith in
    ap (λ (d : ℕ). pointwise eqb (n ∷ []) (drop d (x ∷ xs))) e ∙ ap (pointwise eqb (n ∷ [])) (last_alone x xs) ∙ false_from_ne_true (eqb n last && true) (λ h. absurd (omega (arith, eqb-true n last (and_parts (eqb n last) true h).0, below (length xs) (omega arith))))

pub ends_tell : (xs : List ℕ) (n : ℕ) (t : Bool) → ((p : ℕ) → p < length xs → get_or xs p 0 < n) → ends_with eqb (xs ++ cond t (n ∷ []) []) (n ∷ []) ≡ t
ends_tell xs n true below = ends_there xs n
ends_tell xs n false below = ap (λ (ys : List ℕ). ends_with eqb ys (n ∷ [])) (append-nil xs) ∙ ends_lower xs n below
