-- A line's end by places of the text: what `trimmed_end` of the reader gives.
use Rattle.std.proofs.Common.{◌≡◌, ℕ, ◌+◌, ◌-◌, ◌<◌, ◌≤◌, eqb, List, length, get_or, take, drop, sym, refl, ap, ◌∙◌, subst, arith}
use Rattle.std.proofs.lemmas.List.{length-take-le, length-drop, get_or-take, get_or-drop, take-take}
use Rattle.std.proofs.lemmas.Bool.{cond-true, cond-false, eq-eqb, ne_eqb}
use Rattle.grammar.specs.Lines.{trimmed}

last_of_front : (s : List ℕ) (n : ℕ) → 0 < n → n ≤ length s → get_or (take n s) (length (take n s) - 1) 0 ≡ get_or s (n - 1) 0
last_of_front s n h l =
    ap (λ (k : ℕ). get_or (take n s) (k - 1) 0) (length-take-le n s l) ∙ get_or-take n s (n - 1) 0 (omega arith)

trims_one : (s : List ℕ) (n : ℕ) → 0 < n → n ≤ length s → get_or s (n - 1) 0 ≡ 13 → take (n - 1) s ≡ trimmed (take n s)
trims_one s n h l e =
    sym (cond-true (eqb (get_or (take n s) (length (take n s) - 1) 0) 13) _ _ (eq-eqb _ 13 (last_of_front s n h l ∙ e)) ∙ ap (λ (k : ℕ). take (k - 1) (take n s)) (length-take-le n s l) ∙ take-take (n - 1) n s (omega arith))

trims_none : (s : List ℕ) (n : ℕ) → 0 < n → n ≤ length s → (get_or s (n - 1) 0 ≡ 13 → ⊥) → take n s ≡ trimmed (take n s)
trims_none s n h l f =
    sym (cond-false (eqb (get_or (take n s) (length (take n s) - 1) 0) 13) _ _ (ne_eqb _ 13 (λ e. f (sym (last_of_front s n h l) ∙ e))))

last_byte : (text : List ℕ) (at end : ℕ) → at < end → get_or (drop at text) (end - at - 1) 0 ≡ get_or text (end - 1) 0
last_byte text at end h =
    let k : at + (end - at - 1) ≡ end - 1 = omega arith in get_or-drop at text (end - at - 1) 0 ∙ ap (λ (i : ℕ). get_or text i 0) k

front_fits : (text : List ℕ) (at end : ℕ) → at ≤ end → end ≤ length text → end - at ≤ length (drop at text)
front_fits text at end h l = simp length-drop (omega arith)

pub trims_return : (text : List ℕ) (at end : ℕ) → at < end → end ≤ length text → get_or text (end - 1) 0 ≡ 13 → take (end - 1 - at) (drop at text) ≡ trimmed (take (end - at) (drop at text))
trims_return text at end h l e =
    let k : end - 1 - at ≡ end - at - 1 = omega arith in
    ap (λ (i : ℕ). take i (drop at text)) k ∙ trims_one (drop at text) (end - at) (omega arith) (front_fits text at end (omega arith) l) (last_byte text at end h ∙ e)

pub trims_other : (text : List ℕ) (at end : ℕ) → at < end → end ≤ length text → (get_or text (end - 1) 0 ≡ 13 → ⊥) → take (end - at) (drop at text) ≡ trimmed (take (end - at) (drop at text))
trims_other text at end h l f =
    trims_none (drop at text) (end - at) (omega arith) (front_fits text at end (omega arith) l) (λ e. f (sym (last_byte text at end h) ∙ e))

pub trims_empty : (text : List ℕ) (at end : ℕ) → end ≤ at → take (end - at) (drop at text) ≡ trimmed (take (end - at) (drop at text))
trims_empty text at end h =
    let k : end - at ≡ 0 = omega arith in let P : ℕ → Type 0 = λ n. take n (drop at text) ≡ trimmed (take n (drop at text)) in subst P (sym k) refl
