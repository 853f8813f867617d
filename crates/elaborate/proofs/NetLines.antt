-- The lines on which the nets are defined.
use Rattle.std.proofs.Common.{◌≡◌, ℕ, zero, suc, ◌<◌, ◌≤◌, List, [], ◌∷◌, ◌++◌, map, length, get_or, take, sym, refl, ap, ◌∙◌, arith}
use Rattle.std.proofs.lemmas.List.{append-nil, append_assoc, length-append, length-map}
use Rattle.grammar.specs.Grammar.{Statement, input, output, gate}
use Rattle.grammar.specs.Rules.{Declaration, net_of, nets}
use Rattle.elaborate.specs.Whole.{Rising, net_lines}

pub lines_push : (ds : List Declaration) (d : Declaration) → net_lines (ds ++ d ∷ []) ≡ net_lines ds ++ map (λ (_ : List ℕ). d.line) (net_of d.says)
lines_push [] d = append-nil (map (λ (_ : List ℕ). d.line) (net_of d.says))
lines_push (e ∷ ds) d =
    let front = map (λ (_ : List ℕ). e.line) (net_of e.says) in
    ap (λ (ls : List ℕ). front ++ ls) (lines_push ds d) ∙ sym (append_assoc front (net_lines ds) (map (λ (_ : List ℕ). d.line) (net_of d.says)))

pub length-lines : (ds : List Declaration) → length (net_lines ds) ≡ length (nets ds)
length-lines [] = refl
length-lines (d ∷ ds) =
    let front = map (λ (_ : List ℕ). d.line) (net_of d.says) in
    omega (arith, length-append front (net_lines ds), length-append (net_of d.says) (nets ds), length-map (net_of d.says) (λ (_ : List ℕ). d.line), length-lines ds)

-- nets stand on rising lines
tail_rising : (d : Declaration) (ds : List Declaration) → Rising (d ∷ ds) → Rising ds
tail_rising d ds r i j x y h g = r (suc i) (suc j) x y (omega arith) (omega arith)

lines_above : (b : ℕ) (ds : List Declaration) → ((j : ℕ) (x : Declaration) → j < length ds → b < (get_or ds j x).line) → (i : ℕ) → i < length (net_lines ds) → b < get_or (net_lines ds) i 0
lines_above b [] all i h = absurd (omega arith)
lines_above b (d ∷ ds) all i h = at d.says i h (all 0 d (omega arith)) (lines_above b ds (λ j x g. all (suc j) x (omega arith)))
  where
    at : (s : Statement) (i : ℕ) → i < length (map (λ _. d.line) (net_of s) ++ net_lines ds) → b < d.line → ((i : ℕ) → i < length (net_lines ds) → b < get_or (net_lines ds) i 0) → b < get_or (map (λ _. d.line) (net_of s) ++ net_lines ds) i 0
    at (input n) zero h low more = low
    at (input n) (suc i) h low more = more i (omega arith)
    at (output n) i h low more = more i h
    at (gate n k os) zero h low more = low
    at (gate n k os) (suc i) h low more = more i (omega arith)

pub lines_rise : (ds : List Declaration) → Rising ds → (i j : ℕ) → i ≤ j → j < length (net_lines ds) → get_or (net_lines ds) i 0 ≤ get_or (net_lines ds) j 0
lines_rise [] r i j h g = absurd (omega arith)
lines_rise (d ∷ ds) r i j h g = at d.says i j h g (lines_above d.line ds (λ p x q. r 0 (suc p) d x (omega arith) (omega arith))) (lines_rise ds (tail_rising d ds r))
  where
    at : (s : Statement) (i j : ℕ) → i ≤ j → j < length (map (λ _. d.line) (net_of s) ++ net_lines ds) → ((p : ℕ) → p < length (net_lines ds) → d.line < get_or (net_lines ds) p 0) → ((i j : ℕ) → i ≤ j → j < length (net_lines ds) → get_or (net_lines ds) i 0 ≤ get_or (net_lines ds) j 0) →
        get_or (map (λ _. d.line) (net_of s) ++ net_lines ds) i 0 ≤ get_or (map (λ _. d.line) (net_of s) ++ net_lines ds) j 0
    at (input n) zero zero h g low more = omega arith
    at (input n) zero (suc j) h g low more = omega (arith, low j (omega arith))
    at (input n) (suc i) zero h g low more = absurd (omega arith)
    at (input n) (suc i) (suc j) h g low more = more i j (omega arith) (omega arith)
    at (output n) i j h g low more = more i j h g
    at (gate n k os) zero zero h g low more = omega arith
    at (gate n k os) zero (suc j) h g low more = omega (arith, low j (omega arith))
    at (gate n k os) (suc i) zero h g low more = absurd (omega arith)
    at (gate n k os) (suc i) (suc j) h g low more = more i j (omega arith) (omega arith)

-- the line of the net that declaration i defines
pub line_at : (ds : List Declaration) (i : ℕ) (d : Declaration) → i < length ds → get_or ds i d ≡ d → 0 < length (net_of d.says) → get_or (net_lines ds) (length (nets (take i ds))) 0 ≡ d.line
line_at [] i d h e g = absurd (omega arith)
line_at (c ∷ ds) zero d h e g = at c.says (omega (arith, ap (λ (x : Declaration). length (net_of x.says)) e)) ∙ ap (λ (x : Declaration). x.line) e
  where
    at : (s : Statement) → 0 < length (net_of s) → get_or (map (λ _. c.line) (net_of s) ++ net_lines ds) 0 0 ≡ c.line
    at (input n) g = refl
    at (output n) g = absurd (omega arith)
    at (gate n k os) g = refl
line_at (c ∷ ds) (suc i) d h e g = at c.says (line_at ds i d (omega arith) e g)
  where
    at : (s : Statement) → get_or (net_lines ds) (length (nets (take i ds))) 0 ≡ d.line → get_or (map (λ _. c.line) (net_of s) ++ net_lines ds) (length (net_of s ++ nets (take i ds))) 0 ≡ d.line
    at (input n) f = f
    at (output n) f = f
    at (gate n k os) f = f
