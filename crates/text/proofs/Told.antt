-- What the text layer answers, from what the scan of the line says.
use Rattle.std.proofs.Common.{◌≡◌, ℕ, Bool, true, false, ◌||◌, List, [], ◌∷◌, length, nat_lt, Some, Ok, refl, ap, sym}
use Rattle.std.specs.List.{list_any}
use Rattle.std.proofs.lemmas.Bool.{true≢false}
use Rattle.grammar.specs.Grammar.{Piece, Statement, input, output, gate, Spells}
use Rattle.grammar.specs.Rules.{any_long, LongName}
use Rattle.grammar.specs.Scan.{scan, names, none, parse}
use Rattle.grammar.proofs.Answered.{short_from, long_from}
use Rattle.text.specs.declared.reader.Line.{Line}
use Rattle.text.specs.declared.shape.Shape.{Shape}
use Rattle.text.specs.declared.shape.Shape.TheVariants as shape
use Rattle.text.specs.Shapes.{meant, Placed, TextReads}
use Rattle.text.specs.Tokens.{names_left}
use Rattle.text.specs.Windows.{bytes}

pub nothing_left : (ps : List Piece) → none ps ≡ true → ps ≡ []
nothing_left [] e = refl
nothing_left (p ∷ ps) e = absurd (true≢false (sym e))

pub told : (l : Line) (r : Shape) → meant (Some r) ≡ parse (scan (bytes l)) → Placed l.window.text.now (Some r) → any_long (names (scan (bytes l))) ≡ false → TextReads l (Ok (Some r))
told l (shape.Input n) e p o = (short_from (bytes l) (input n.bytes.now) e o, p)
told l (shape.Output n) e p o = (short_from (bytes l) (output n.bytes.now) e o, p)
told l (shape.Gate n k c) e p o = (short_from (bytes l) (gate n.bytes.now k.bytes.now (names_left c)) e o, p.0, p.1)

pub long_told : (line : List ℕ) (r : Shape) → meant (Some r) ≡ parse (scan line) → any_long (names (scan line)) ≡ true → (s : Statement) × Spells line s × LongName s
long_told line (shape.Input n) e o = long_from line (input n.bytes.now) e o
long_told line (shape.Output n) e o = long_from line (output n.bytes.now) e o
long_told line (shape.Gate n k c) e o = long_from line (gate n.bytes.now k.bytes.now (names_left c)) e o

pub any_of_long : (ns : List (List ℕ)) → list_any (λ n. nat_lt 16 (length n)) ns ≡ any_long ns
any_of_long [] = refl
any_of_long (n ∷ ns) = ap (λ (t : Bool). nat_lt 16 (length n) || t) (any_of_long ns)
