-- Where a line of a text ends.
use Rattle.std.proofs.Common.{◌≡◌, ℕ, zero, suc, ◌<◌, eqb, List, [], ◌∷◌, map, length, get_or, take, drop, refl, ap, ◌∙◌, arith}
use Rattle.std.proofs.lemmas.Bool.{cond-true, cond-false, eq-eqb, ne_eqb}
use Rattle.grammar.specs.Lines.{before, cut, trimmed, lines}

-- no byte 10 stands in the first n bytes
abbrev pub Unbroken : List ℕ → ℕ → Type 0
Unbroken s n = (j : ℕ) → j < n → get_or s j 0 ≡ 10 → ⊥

cut_other : (b : ℕ) (bs : List ℕ) → (b ≡ 10 → ⊥) → cut (b ∷ bs) ≡ before b (cut bs)
cut_other b bs f = cond-false (eqb b 10) _ _ (ne_eqb b 10 f)

tail_unbroken : (b : ℕ) (bs : List ℕ) (n : ℕ) → Unbroken (b ∷ bs) (suc n) → Unbroken bs n
tail_unbroken b bs n u = λ j h e. u (suc j) (omega arith) e

cut_at_break : (s : List ℕ) (n : ℕ) → n < length s → Unbroken s n → get_or s n 0 ≡ 10 → cut s ≡ take n s ∷ cut (drop (suc n) s)
cut_at_break [] n h u e = absurd (omega (arith, h))
cut_at_break (b ∷ bs) zero h u e = cond-true (eqb b 10) _ _ (eq-eqb b 10 e)
cut_at_break (b ∷ bs) (suc n) h u e =
    cut_other b bs (u 0 (omega arith)) ∙ ap (before b) (cut_at_break bs n (omega arith) (tail_unbroken b bs n u) e)

cut_at_end : (b : ℕ) (bs : List ℕ) → Unbroken (b ∷ bs) (length (b ∷ bs)) → cut (b ∷ bs) ≡ (b ∷ bs) ∷ []
cut_at_end b [] u = cut_other b [] (u 0 (omega arith))
cut_at_end b (c ∷ cs) u = cut_other b (c ∷ cs) (u 0 (omega arith)) ∙ ap (before b) (cut_at_end c cs (tail_unbroken b (c ∷ cs) (length (c ∷ cs)) u))

pub no_lines : lines [] ≡ []
unfolding lines
no_lines = refl

pub lines_at_break : (s : List ℕ) (n : ℕ) → n < length s → Unbroken s n → get_or s n 0 ≡ 10 → lines s ≡ trimmed (take n s) ∷ lines (drop (suc n) s)
unfolding lines
lines_at_break s n h u e = ap (map trimmed) (cut_at_break s n h u e)

pub lines_at_end : (s : List ℕ) → 0 < length s → Unbroken s (length s) → lines s ≡ trimmed s ∷ []
unfolding lines
lines_at_end [] h u = absurd (omega (arith, h))
lines_at_end (b ∷ bs) h u = ap (map trimmed) (cut_at_end b bs u)
