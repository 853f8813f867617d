-- What one line of .bench text says.
use Rattle.std.specs.Prelude.{◌≡◌, ℕ, ◌<◌, Bool, true, ◌&&◌, ◌||◌, List, [], ◌∷◌, ◌++◌, length, codes, ◌==◌, nat_le, slice_index}
use Prim.Native.String.{String}

-- blanks are spaces and tabs
abbrev pub is_blank_byte : ℕ → Bool
is_blank_byte b = b == 32 || b == 9

abbrev pub between : ℕ → ℕ → ℕ → Bool
between low high b = nat_le low b && nat_le b high

-- the bytes of names: digits, letters and _ . [ ]
abbrev pub is_name_character : ℕ → Bool
is_name_character b = between 48 57 b || (between 65 90 b || (between 97 122 b || (b == 95 || (b == 46 || (b == 91 || b == 93)))))

abbrev pub every : (ℕ → Bool) → List ℕ → Bool
every p [] = true
every p (b ∷ bs) = p b && every p bs

-- a name, of any length from 1 on
abbrev pub IsName : List ℕ → Type 0
IsName n = (0 < length n) × (every is_name_character n ≡ true)

-- a line is written in names and signs
pub data Piece : Type 0 where
  name : List ℕ → Piece
  sign : ℕ → Piece

abbrev pub text : Piece → List ℕ
text (name n) = n
text (sign s) = s ∷ []

-- The line has these pieces in this order, with blanks around them at will and a comment (# is byte 35) behind them
-- at will.
pub data Has : List ℕ → List Piece → Type 0 where
  nothing : Has [] []
  comment : (bytes : List ℕ) → Has (35 ∷ bytes) []
  blank : (b : ℕ) (line : List ℕ) (ps : List Piece) → is_blank_byte b ≡ true → Has line ps → Has (b ∷ line) ps
  piece : (p : Piece) (line : List ℕ) (ps : List Piece) → Has line ps → Has (text p ++ line) (p ∷ ps)

-- a gate's kind is any name here
pub data Statement : Type 0 where
  input : List ℕ → Statement
  output : List ℕ → Statement
  gate : List ℕ → List ℕ → List (List ℕ) → Statement

abbrev pub mark : String → Piece
mark s = sign (slice_index (codes s) 0)

-- operands with commas between them, and the closing bracket
abbrev pub listed : List (List ℕ) → List Piece
listed [] = mark ")" ∷ []
listed (o ∷ []) = name o ∷ mark ")" ∷ []
listed (o ∷ (p ∷ os)) = name o ∷ mark "," ∷ listed (p ∷ os)

-- INPUT(n)   OUTPUT(n)   n = k(o, ..)
abbrev pub pieces : Statement → List Piece
pieces (input n) = name (codes "INPUT") ∷ mark "(" ∷ name n ∷ mark ")" ∷ []
pieces (output n) = name (codes "OUTPUT") ∷ mark "(" ∷ name n ∷ mark ")" ∷ []
pieces (gate n k os) = name n ∷ mark "=" ∷ name k ∷ mark "(" ∷ listed os

abbrev pub AreNames : List (List ℕ) → Type 0
AreNames [] = Unit {0}
AreNames (n ∷ ns) = IsName n × AreNames ns

-- its names are names, and a gate has an operand
abbrev pub Sound : Statement → Type 0
Sound (input n) = IsName n
Sound (output n) = IsName n
Sound (gate n k os) = IsName n × IsName k × AreNames os × (0 < length os)

abbrev pub Spells : List ℕ → Statement → Type 0
Spells line s = Has line (pieces s) × Sound s

-- blanks and a comment at most
abbrev pub SaysNothing : List ℕ → Type 0
SaysNothing line = Has line []
