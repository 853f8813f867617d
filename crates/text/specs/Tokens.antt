-- What a window on a line hands out.
use Rattle.std.specs.Prelude.{◌≡◌, ℕ, ◌<◌, ◌≤◌, false, List, [], ◌∷◌, length, drop, Some, None, Option}
use Rattle.names.specs.declared.name.Name.{Name}
use Rattle.names.specs.Places.{Stands}
use Rattle.grammar.specs.Grammar.{name, sign}
use Rattle.grammar.specs.Scan.{scan, paired, names}
use Rattle.text.specs.declared.cursor.Cursor.{Cursor}
use Rattle.text.specs.declared.cursor.Names.{Names}
use Rattle.text.specs.declared.cursor.Token.{Token}
use Rattle.text.specs.declared.cursor.Token.TheVariants as token

-- what is still to be read
abbrev pub rest : Cursor → List ℕ
rest c = drop c.at c.text.now

-- the names that are still to be read
abbrev pub names_left : Cursor → List (List ℕ)
names_left c = names (scan (rest c))

abbrev pub names_of : Names → List (List ℕ)
names_of s = names_left s.0

abbrev pub Further : Cursor → Cursor → Type 0
Further c d = (d.text ≡ c.text) × (c.at < d.at) × (d.at ≤ length c.text.now)

-- one token read: which one it is, where it stands, and what is left; or none is left, and nothing moves
abbrev pub Gives : Cursor → Option Token → Cursor → Type 0
Gives c None d = (scan (rest c) ≡ []) × (d ≡ c)
Gives c (Some (token.Sign s)) d = (scan (rest c) ≡ sign s ∷ scan (rest d)) × Further c d
Gives c (Some (token.Name n)) d = (scan (rest c) ≡ name n.bytes.now ∷ scan (rest d)) × Further c d × Stands c.text.now n

abbrev pub name_in : Token → Option Name
name_in (token.Sign s) = None
name_in (token.Name n) = Some n

-- a name and the sign behind it, where these stand next
abbrev pub GivesPair : Cursor → Option (Name × ℕ) → Cursor → Type 0
GivesPair c None d = paired (scan (rest c)) ≡ false
GivesPair c (Some r) d = (scan (rest c) ≡ name r.0.bytes.now ∷ (sign r.1 ∷ scan (rest d))) × Further c d × Stands c.text.now r.0

-- the next name, at its place, and the names behind it are left; or none is left
abbrev pub GivesName : Cursor → Option Name → Cursor → Type 0
GivesName c None d = (names_left c ≡ []) × (names_left d ≡ []) × (d.text ≡ c.text)
GivesName c (Some n) d = (names_left c ≡ n.bytes.now ∷ names_left d) × Further c d × Stands c.text.now n

-- the same of the names that are left, each at its place of the text
abbrev pub GivesNextName : Names → Option Name → Names → Type 0
GivesNextName s r t = GivesName s.0 r t.0
