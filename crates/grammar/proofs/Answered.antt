-- What a line spells, from what its scan says.
use Rattle.std.proofs.Common.{◌≡◌, ℕ, true, false, List, ◌∷◌, codes, sym, refl, ap, ◌∙◌, arith}
use Rattle.std.proofs.lemmas.Slice.Eq.{bytes_eq-Decides}
use Rattle.std.proofs.lemmas.Bool.{both_ways}
use Rattle.grammar.specs.Grammar.{Statement, input, output, gate, pieces, Spells, SaysNothing}
use Rattle.grammar.specs.Rules.{NoStatement, all_names, any_long, LongName}
use Rattle.grammar.specs.Scan.{scan, names, says, malformed, empty, parse, keyworded}
use Rattle.grammar.proofs.Pieces.{scanned}
use Rattle.grammar.proofs.Meaning.{listed_names, pieces_proper, parse_empty, spelled, spells, silenced, silent}

pub word_input : (w n : List ℕ) → w ≡ codes "INPUT" → says (input n) ≡ keyworded w n
word_input w n e = ap (λ (v : List ℕ). keyworded v n) (sym e)

pub word_output : (w n : List ℕ) → w ≡ codes "OUTPUT" → says (output n) ≡ keyworded w n
word_output w n e = ap (λ (v : List ℕ). keyworded v n) (sym e)

pub word_other : (w n : List ℕ) → (w ≡ codes "INPUT" → ⊥) → (w ≡ codes "OUTPUT" → ⊥) → malformed ≡ keyworded w n
word_other w n f g = grind (arith, bytes_eq-Decides)

pub no_statement_from : (line : List ℕ) → malformed ≡ parse (scan line) → NoStatement line
no_statement_from line e = (
  λ h. let f = silenced line h in let z : ◌≡◌ {A = ℕ} 0 1 = cc in omega arith,
  λ s h. let f = spelled line s h in let z : ◌≡◌ {A = ℕ} 0 1 = cc in omega arith,
)

pub silent_from : (line : List ℕ) → empty ≡ parse (scan line) → SaysNothing line
silent_from line e = silent line (parse_empty (scan line) (sym e))

long_pieces : (s : Statement) → any_long (names (pieces s)) ≡ any_long (all_names s)
long_pieces (input n) = refl
long_pieces (output n) = refl
long_pieces (gate n k os) = ap (λ (ns : List (List ℕ)). any_long (n ∷ (k ∷ ns))) (listed_names os)

-- a line's long names are its statement's
long_scan : (line : List ℕ) (s : Statement) → Spells line s → any_long (names (scan line)) ≡ any_long (all_names s)
long_scan line s h = ap (λ (ps : List _). any_long (names ps)) (scanned h.0 (pieces_proper s h.1)) ∙ long_pieces s

pub short_from : (line : List ℕ) (s : Statement) → says s ≡ parse (scan line) → any_long (names (scan line)) ≡ false → Spells line s × (LongName s → ⊥)
short_from line s e o =
    let h = spells line s (sym e) in (h, λ l. both_ways (any_long (all_names s)) (sym (long_scan line s h) ∙ o) l)

pub long_from : (line : List ℕ) (s : Statement) → says s ≡ parse (scan line) → any_long (names (scan line)) ≡ true → (t : Statement) × Spells line t × LongName t
long_from line s e o = let h = spells line s (sym e) in (s, h, sym (long_scan line s h) ∙ o)

pub silent_short : (line : List ℕ) → empty ≡ parse (scan line) → any_long (names (scan line)) ≡ true → ⊥
silent_short line e o =
    both_ways (any_long (names (scan line))) (ap (λ (ps : List _). any_long (names ps)) (parse_empty (scan line) (sym e))) o
