-- Where lines end, by places of the text.
use Rattle.std.proofs.Common.{◌≡◌, ℕ, suc, ◌+◌, ◌-◌, ◌<◌, ◌≤◌, Bool, not, ◌==◌, List, [], ◌∷◌, length, get_or, take, drop, min, sym, ap, ◌∙◌, subst, ⊎_elim, arith}
use Rattle.std.specs.List.{prefix_len}
use Rattle.std.proofs.lemmas.List.{length-drop, take_all, drop_all, drop-drop}
use Rattle.std.proofs.lemmas.List.Sums.{prefix_len-le-length, prefix_len_passes, prefix_len_stops}
use Rattle.std.proofs.lemmas.Bool.{not-true, not-false, eqb-true, eq-eqb, cases_lt, both_ways}
use Rattle.grammar.specs.Lines.{trimmed, lines}
use Rattle.grammar.proofs.LineEnds.{Unbroken, no_lines, lines_at_break, lines_at_end}

-- any byte but the one that ends a line
abbrev pub goes_on : ℕ → Bool
goes_on b = not (b == 10)

unbroken : (s : List ℕ) → Unbroken s (prefix_len goes_on s)
unbroken s = λ j h e. both_ways (get_or s j 0 == 10) (not-true _ (prefix_len_passes goes_on s j 0 h)) (eq-eqb _ 10 e)

-- a line from a place on, and the lines behind it
pub line_read : (text : List ℕ) (at end next : ℕ) → at < length text → end ≡ at + prefix_len goes_on (drop at text) → next ≡ min (length text) (end + 1) → lines (drop at text) ≡ trimmed (take (end - at) (drop at text)) ∷ lines (drop next text)
line_read text at end next h e f = ⊎_elim broken last (cases_lt n (length s))
  where
    s : List ℕ
    s = drop at text

    n : ℕ
    n = prefix_len goes_on s

    size : length s ≡ length text - at
    size = length-drop at text

    front : n ≡ end - at
    front = omega (arith, e)

    broken : n < length s → lines s ≡ trimmed (take (end - at) s) ∷ lines (drop next text)
    broken g =
        let ten : get_or s n 0 ≡ 10 = eqb-true _ 10 (not-false _ (prefix_len_stops goes_on s 0 g)) in
        let behind : at + suc n ≡ next = omega (arith, e, f, g, size) in
        lines_at_break s n g (unbroken s) ten ∙ ap (λ (k : ℕ). trimmed (take k s) ∷ lines (drop (suc n) s)) front ∙ ap (λ (t : List ℕ). trimmed (take (end - at) s) ∷ lines t) (drop-drop (suc n) at text ∙ ap (λ (k : ℕ). drop k text) behind)

    last : length s ≤ n → lines s ≡ trimmed (take (end - at) s) ∷ lines (drop next text)
    last g =
        let all : n ≡ length s = omega (arith, g, prefix_len-le-length goes_on s) in
        let behind : length text ≤ next = omega (arith, e, f, all, size, h) in
        let whole : take (end - at) s ≡ s = take_all (end - at) s (omega (arith, front, all)) in
        let P : ℕ → Type 0 = λ k. Unbroken s k in
        lines_at_end s (omega (arith, size, h)) (subst P all (unbroken s)) ∙ ap (λ (t : List ℕ). trimmed t ∷ []) (sym whole) ∙ ap (λ (ls : List (List ℕ)). trimmed (take (end - at) s) ∷ ls) (sym (ap lines (drop_all next text behind) ∙ no_lines))
