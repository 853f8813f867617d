-- What a window on a text hands out.
use Rattle.std.specs.Prelude.{◌≡◌, ℕ, ◌+◌, ◌<◌, List, [], ◌∷◌, drop, Some, None, Option}
use Rattle.names.specs.declared.name.Name.{Name}
use Rattle.names.specs.Places.{Stands}
use Rattle.grammar.specs.Lines.{lines}
use Rattle.text.specs.declared.reader.Reader.{Reader}
use Rattle.text.specs.declared.reader.Line.{Line}
use Rattle.text.specs.Tokens.{rest}

-- the bytes of the text that are still to be read
abbrev pub unread : Reader → List ℕ
unread r = drop r.at r.text.now

abbrev pub bytes : Line → List ℕ
bytes l = rest l.window

-- a window on the whole text
pub record Starts (text : List ℕ) (r : Reader) : Type 0 where
  pub whole : unread r ≡ text
  pub over : r.text.now ≡ text
  pub first : r.line ≡ 0

-- What stands in the window on a line stands in the text.
abbrev pub PlacedIn : List ℕ → Line → Type 0
PlacedIn text l = (n : Name) → Stands l.window.text.now n → Stands text n

-- the next line with its number, and the lines behind it are left; or no line is left, and nothing moves
abbrev pub GivesLine : Reader → Option Line → Reader → Type 0
GivesLine q None r = (lines (unread q) ≡ []) × (r ≡ q)
GivesLine q (Some l) r = (lines (unread q) ≡ bytes l ∷ lines (unread r)) × (l.number ≡ q.line + 1) × (r.line ≡ q.line + 1) × (r.text ≡ q.text) × (q.at < r.at) × PlacedIn q.text.now l
