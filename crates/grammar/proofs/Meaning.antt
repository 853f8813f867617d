-- What the pieces of a line say is what the line spells.
use Rattle.std.proofs.Common.{◌≡◌, ℕ, ◌<◌, Bool, true, false, cond, eqb, List, [], ◌∷◌, length, refl, ap, ◌∙◌, subst, arith}
use Rattle.std.proofs.lemmas.Slice.Eq.{bytes_eq-Decides}
use Rattle.std.proofs.lemmas.Bool.Decides.{nat_tests}
use Rattle.grammar.specs.Grammar.{is_blank_byte, is_name_character, Piece, name, sign, Has, Statement, input, output, gate, listed, pieces, AreNames, Sound, Spells, SaysNothing}
use Rattle.grammar.specs.Scan.{scan, names, listing, empty, says, malformed, parse}
use Rattle.grammar.proofs.Pieces.{IsSign, Proper, Named, scanned, has_scan, named_scan}

a_sign : (s : ℕ) → is_name_character s ≡ false → is_blank_byte s ≡ false → eqb s 35 ≡ false → IsSign s
a_sign s a b c = record { named = a; blanked = b; commented = c }

listed_proper : (os : List (List ℕ)) → AreNames os → Proper (listed os)
listed_proper [] h = (a_sign 41 refl refl refl, tt)
listed_proper (o ∷ []) h = (h.0, a_sign 41 refl refl refl, tt)
listed_proper (o ∷ (p ∷ os)) h = (h.0, a_sign 44 refl refl refl, listed_proper (p ∷ os) h.1)

pub pieces_proper : (s : Statement) → Sound s → Proper (pieces s)
pieces_proper (input n) h = ((omega arith, refl), a_sign 40 refl refl refl, (h, a_sign 41 refl refl refl, tt))
pieces_proper (output n) h = ((omega arith, refl), a_sign 40 refl refl refl, (h, a_sign 41 refl refl refl, tt))
pieces_proper (gate n k os) h = (h.0, a_sign 61 refl refl refl, (h.1, a_sign 40 refl refl refl, listed_proper os h.2))

-- from a statement to what its pieces say
listed_lists : (os : List (List ℕ)) → 0 < length os → listing (listed os) ≡ true
listed_lists [] h = absurd (omega (arith, h))
listed_lists (o ∷ []) h = refl
listed_lists (o ∷ (p ∷ os)) h = listed_lists (p ∷ os) (omega arith)

pub listed_names : (os : List (List ℕ)) → names (listed os) ≡ os
listed_names [] = refl
listed_names (o ∷ []) = refl
listed_names (o ∷ (p ∷ os)) = ap (λ (ns : List (List ℕ)). o ∷ ns) (listed_names (p ∷ os))

parse_pieces : (s : Statement) → Sound s → parse (pieces s) ≡ says s
parse_pieces (input n) h = refl
parse_pieces (output n) h = refl
parse_pieces (gate n k os) h =
    ap (λ (t : Bool). cond t (says (gate n k (names (listed os)))) malformed) (listed_lists os h.3) ∙ ap (λ (ns : List (List ℕ)). says (gate n k ns)) (listed_names os)

-- and back
listing_listed : (ps : List Piece) → listing ps ≡ true → (ps ≡ listed (names ps)) × (0 < length (names ps))
listing_listed [] h = grind arith
listing_listed (sign s ∷ ps) h = grind arith
listing_listed (name n ∷ []) h = grind arith
listing_listed (name n ∷ (name m ∷ ps)) h = grind arith
listing_listed (name n ∷ (sign s ∷ ps)) h = let ih = listing_listed ps in grind (arith, nat_tests)

listing_names : (ps : List Piece) → listing ps ≡ true → ps ≡ listed (names ps)
listing_names ps h = (listing_listed ps h).0

listing_some : (ps : List Piece) → listing ps ≡ true → 0 < length (names ps)
listing_some ps h = (listing_listed ps h).1

parse_says : (ps : List Piece) (s : Statement) → parse ps ≡ says s → ps ≡ pieces s
parse_says ps s e = grind (arith, nat_tests, bytes_eq-Decides, listing_names)

-- a gate that is said has an operand
abbrev Filled : Statement → Type 0
Filled (input n) = Unit {0}
Filled (output n) = Unit {0}
Filled (gate n k os) = 0 < length os

parse_filled : (ps : List Piece) (s : Statement) → parse ps ≡ says s → Filled s
parse_filled ps s e = grind (arith, nat_tests, listing_some)

pub parse_empty : (ps : List Piece) → parse ps ≡ empty → ps ≡ []
parse_empty ps e = grind (arith, nat_tests)

named_listed : (os : List (List ℕ)) → Named (listed os) → AreNames os
named_listed [] d = tt
named_listed (o ∷ []) d = (d.0, tt)
named_listed (o ∷ (p ∷ os)) d = (d.0, named_listed (p ∷ os) d.1)

named_sound : (s : Statement) → Named (pieces s) → Filled s → Sound s
named_sound (input n) d f = d.1.0
named_sound (output n) d f = d.1.0
named_sound (gate n k os) d f = (d.0, d.1.0, named_listed os d.1.1, f)

-- a line spells a statement exactly where its scan says it, and says nothing exactly where its scan is empty
pub spelled : (line : List ℕ) (s : Statement) → Spells line s → parse (scan line) ≡ says s
spelled line s h = ap parse (scanned h.0 (pieces_proper s h.1)) ∙ parse_pieces s h.1

pub spells : (line : List ℕ) (s : Statement) → parse (scan line) ≡ says s → Spells line s
spells line s e =
    let p = parse_says (scan line) s e in
    (subst (Has line) p (has_scan line), named_sound s (subst Named p (named_scan line)) (parse_filled (scan line) s e))

pub silenced : (line : List ℕ) → SaysNothing line → parse (scan line) ≡ empty
silenced line h = ap parse (scanned h tt)

pub silent : (line : List ℕ) → scan line ≡ [] → SaysNothing line
silent line e = subst (Has line) e (has_scan line)
