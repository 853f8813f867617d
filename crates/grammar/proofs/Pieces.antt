-- The pieces that a line has are those that a scan finds.
use Rattle.std.proofs.Common.{◌≡◌, ℕ, Bool, true, false, cond, eqb, List, [], ◌∷◌, ◌++◌, sym, refl, ap, ◌∙◌, subst, arith}
use Rattle.std.proofs.lemmas.Bool.Decides.{nat_tests}
use Rattle.std.proofs.lemmas.Bool.{and_parts, and_from, eqb-true, cond-true, cond-false, true≢false}
use Rattle.grammar.specs.Grammar.{is_blank_byte, is_name_character, every, IsName, Piece, name, sign, Has, nothing, comment, blank, piece}
use Rattle.grammar.specs.Scan.{starts_name, glue, scan}

-- a byte that can stand alone in a line: no part of a name, no blank and no start of a comment
pub record IsSign (s : ℕ) : Type 0 where
  pub named : is_name_character s ≡ false
  pub blanked : is_blank_byte s ≡ false
  pub commented : eqb s 35 ≡ false

-- names and signs, and no two names side by side
abbrev pub Proper : List Piece → Type 0
Proper [] = Unit {0}
Proper (sign s ∷ ps) = IsSign s × Proper ps
Proper (name n ∷ []) = IsName n
Proper (name n ∷ (name m ∷ ps)) = ⊥
Proper (name n ∷ (sign s ∷ ps)) = IsName n × IsSign s × Proper ps

pub blank_unnamed : (b : ℕ) → is_blank_byte b ≡ true → is_name_character b ≡ false
blank_unnamed b h = grind (arith, nat_tests)

pub scan_blank : (b : ℕ) (bs : List ℕ) → is_blank_byte b ≡ true → scan (b ∷ bs) ≡ scan bs
scan_blank b bs h = cond-false (is_name_character b) _ _ (blank_unnamed b h) ∙ cond-true (is_blank_byte b) _ _ h

pub scan_sign : (s : ℕ) (bs : List ℕ) → IsSign s → scan (s ∷ bs) ≡ sign s ∷ scan bs
scan_sign s bs h = cond-false (is_name_character s) _ _ h.named ∙ cond-false (is_blank_byte s) _ _ h.blanked ∙ cond-false (eqb s 35) _ _ h.commented

pub scan_named : (b : ℕ) (bs : List ℕ) → is_name_character b ≡ true → scan (b ∷ bs) ≡ glue b (starts_name bs) (scan bs)
scan_named b bs h = cond-true (is_name_character b) _ _ h

pub scan_name : (b : ℕ) (n rest : List ℕ) → is_name_character b ≡ true → every is_name_character n ≡ true → starts_name rest ≡ false → scan (b ∷ (n ++ rest)) ≡ name (b ∷ n) ∷ scan rest
scan_name b [] rest h e s = scan_named b rest h ∙ ap (λ (t : Bool). glue b t (scan rest)) s
scan_name b (c ∷ n) rest h e s =
    let p = and_parts (is_name_character c) (every is_name_character n) e in
    scan_named b (c ∷ (n ++ rest)) h ∙ ap (λ (t : Bool). glue b t (scan (c ∷ (n ++ rest)))) p.0 ∙ ap (glue b true) (scan_name c n rest p.0 p.1 s)

-- what has a sign first, or nothing, does not begin with a byte of a name
nothing_unnamed : {line : List ℕ} → Has line [] → starts_name line ≡ false
nothing_unnamed nothing = refl
nothing_unnamed (comment bytes) = refl
nothing_unnamed (blank b line ps h d) = blank_unnamed b h

sign_unnamed : {s : ℕ} {rest : List Piece} {line : List ℕ} → IsSign s → Has line (sign s ∷ rest) → starts_name line ≡ false
sign_unnamed i (blank b line ps h d) = blank_unnamed b h
sign_unnamed i (piece p line ps d) = i.named

pub name_first : (n line : List ℕ) → IsName n → starts_name line ≡ false → scan (n ++ line) ≡ name n ∷ scan line
name_first [] line i s = absurd (omega (arith, i.0))
name_first (b ∷ n) line i s =
    let p = and_parts (is_name_character b) (every is_name_character n) i.1 in scan_name b n line p.0 p.1 s

-- a line that has such pieces is scanned into them
pub scanned : {line : List ℕ} {ps : List Piece} → Has line ps → Proper ps → scan line ≡ ps
scanned nothing h = refl
scanned (comment bytes) h = refl
scanned (blank b line ps e d) h = scan_blank b line e ∙ scanned d h
scanned (piece (sign s) line ps d) h = scan_sign s line h.0 ∙ ap (λ (qs : List Piece). sign s ∷ qs) (scanned d h.1)
scanned (piece (name n) line [] d) h = name_first n line h (nothing_unnamed d) ∙ ap (λ (qs : List Piece). name n ∷ qs) (scanned d tt)
scanned (piece (name n) line (name m ∷ ps) d) h = absurd h
scanned (piece (name n) line (sign s ∷ ps) d) h =
    name_first n line h.0 (sign_unnamed h.1 d) ∙ ap (λ (qs : List Piece). name n ∷ qs) (scanned d (h.1, h.2))

-- and a line has the pieces that it is scanned into
glued : (b : ℕ) {line : List ℕ} {ps : List Piece} → starts_name line ≡ true → Has line ps → Has (b ∷ line) (glue b true ps)
glued b s nothing = absurd (true≢false (sym s))
glued b s (comment bytes) = absurd (true≢false (sym s))
glued b s (blank c line ps h d) = absurd (true≢false (sym s ∙ blank_unnamed c h))
glued b s (piece (name n) line ps d) = piece (name (b ∷ n)) line ps d
glued b s (piece (sign c) line ps d) = piece (name (b ∷ [])) (c ∷ line) (sign c ∷ ps) (piece (sign c) line ps d)

pub has_scan : (line : List ℕ) → Has line (scan line)
has_scan [] = nothing
has_scan (b ∷ bs) = at (is_name_character b) (is_blank_byte b) (eqb b 35) (starts_name bs) refl refl refl (has_scan bs)
  where
    at : (n w c t : Bool) → is_blank_byte b ≡ w → eqb b 35 ≡ c → starts_name bs ≡ t → Has bs (scan bs) → Has (b ∷ bs) (cond n (glue b t (scan bs)) (cond w (scan bs) (cond c [] (sign b ∷ scan bs))))
    at true w c true e f g d = glued b g d
    at true w c false e f g d = piece (name (b ∷ [])) bs (scan bs) d
    at false true c t e f g d = blank b bs (scan bs) e d
    at false false true t e f g d = let P : ℕ → Type 0 = λ k. Has (k ∷ bs) [] in subst P (sym (eqb-true b 35 f)) (comment bs)
    at false false false t e f g d = piece (sign b) bs (scan bs) d

-- the names of a scan are names
abbrev pub Named : List Piece → Type 0
Named [] = Unit {0}
Named (name n ∷ ps) = IsName n × Named ps
Named (sign s ∷ ps) = Named ps

alone : (b : ℕ) → is_name_character b ≡ true → IsName (b ∷ [])
alone b h = (omega arith, and_from (is_name_character b) true h refl)

glued_named : (b : ℕ) (t : Bool) (ps : List Piece) → is_name_character b ≡ true → Named ps → Named (glue b t ps)
glued_named b false ps h d = (alone b h, d)
glued_named b true [] h d = (alone b h, tt)
glued_named b true (name n ∷ ps) h d = ((omega arith, and_from (is_name_character b) (every is_name_character n) h d.0.1), d.1)
glued_named b true (sign s ∷ ps) h d = (alone b h, d)

pub named_scan : (line : List ℕ) → Named (scan line)
named_scan [] = tt
named_scan (b ∷ bs) = at (is_name_character b) (is_blank_byte b) (eqb b 35) refl (named_scan bs)
  where
    at : (n w c : Bool) → is_name_character b ≡ n → Named (scan bs) → Named (cond n (glue b (starts_name bs) (scan bs)) (cond w (scan bs) (cond c [] (sign b ∷ scan bs))))
    at true w c e d = glued_named b (starts_name bs) (scan bs) e d
    at false true c e d = d
    at false false true e d = tt
    at false false false e d = d
