-- The pieces of a line as a function of the line, and what they say. No promise to a caller rests on this file: the
-- reader's inner functions are stated by it, and proofs/ shows that it agrees with the grammar.
use Rattle.std.specs.Prelude.{ℕ, Bool, true, false, cond, List, [], ◌∷◌, codes, ◌==◌}
use Rattle.std.specs.Str.{bytes_eq}
use Rattle.grammar.specs.Grammar.{is_blank_byte, is_name_character, Piece, name, sign, Statement, input, output, gate}

abbrev pub starts_name : List ℕ → Bool
starts_name [] = false
starts_name (b ∷ bs) = is_name_character b

-- a byte of a name before the pieces behind it: a name of its own, or the first byte of their first
abbrev pub glue : ℕ → Bool → List Piece → List Piece
glue b false ps = name (b ∷ []) ∷ ps
glue b true [] = name (b ∷ []) ∷ []
glue b true (name n ∷ ps) = name (b ∷ n) ∷ ps
glue b true (sign s ∷ ps) = name (b ∷ []) ∷ (sign s ∷ ps)

-- the names, each as long as it can be, and every other byte that is no blank, up to the comment
abbrev pub scan : List ℕ → List Piece
scan [] = []
scan (b ∷ bs) = cond (is_name_character b) (glue b (starts_name bs) (scan bs)) (cond (is_blank_byte b) (scan bs) (cond (b == 35) [] (sign b ∷ scan bs)))

abbrev pub names : List Piece → List (List ℕ)
names [] = []
names (name n ∷ ps) = n ∷ names ps
names (sign s ∷ ps) = names ps

abbrev pub none : List Piece → Bool
none [] = true
none (p ∷ ps) = false

-- a name and a sign stand first
abbrev pub paired : List Piece → Bool
paired [] = false
paired (sign s ∷ ps) = false
paired (name n ∷ []) = false
paired (name n ∷ (name m ∷ ps)) = false
paired (name n ∷ (sign s ∷ ps)) = true

-- names with commas between them, a closing bracket, and nothing else
abbrev pub listing : List Piece → Bool
listing [] = false
listing (sign s ∷ ps) = false
listing (name n ∷ []) = false
listing (name n ∷ (name m ∷ ps)) = false
listing (name n ∷ (sign s ∷ ps)) = cond (s == 44) (listing ps) (cond (s == 41) (none ps) false)

pub data Parsed : Type 0 where
  empty : Parsed
  says : Statement → Parsed
  malformed : Parsed

abbrev pub keyworded : List ℕ → List ℕ → Parsed
keyworded w n = cond (bytes_eq w (codes "INPUT")) (says (input n)) (cond (bytes_eq w (codes "OUTPUT")) (says (output n)) malformed)

-- behind a word and its opening bracket
abbrev pub port : List ℕ → List Piece → Parsed
port w [] = malformed
port w (sign s ∷ ps) = malformed
port w (name n ∷ []) = malformed
port w (name n ∷ (name m ∷ ps)) = malformed
port w (name n ∷ (sign s ∷ ps)) = cond (s == 41) (cond (none ps) (keyworded w n) malformed) malformed

-- behind a name and its sign of equality
abbrev pub defined : List ℕ → List Piece → Parsed
defined n [] = malformed
defined n (sign s ∷ ps) = malformed
defined n (name k ∷ []) = malformed
defined n (name k ∷ (name m ∷ ps)) = malformed
defined n (name k ∷ (sign s ∷ ps)) = cond (s == 40) (cond (listing ps) (says (gate n k (names ps))) malformed) malformed

abbrev pub parse : List Piece → Parsed
parse [] = empty
parse (sign s ∷ ps) = malformed
parse (name n ∷ []) = malformed
parse (name n ∷ (name m ∷ ps)) = malformed
parse (name n ∷ (sign s ∷ ps)) = cond (s == 40) (port n ps) (cond (s == 61) (defined n ps) malformed)
