-- What the text layer answers of a line.
use Rattle.std.specs.Prelude.{◌≡◌, ℕ, List, Some, None, Ok, Err, Option, Result}
use Rattle.names.specs.Places.{Stands}
use Rattle.grammar.specs.Grammar.{Statement, input, output, gate, Spells, SaysNothing}
use Rattle.grammar.specs.Rules.{LongName, NoStatement}
use Rattle.grammar.specs.Scan.{Parsed, says, malformed}
use Rattle.text.specs.declared.fault.TextFault.{TextFault}
use Rattle.text.specs.declared.fault.TextFault.TheVariants as fault
use Rattle.text.specs.declared.reader.Line.{Line}
use Rattle.text.specs.declared.shape.Shape.{Shape}
use Rattle.text.specs.declared.shape.Shape.TheVariants as shape
use Rattle.text.specs.Tokens.{names_left}
use Rattle.text.specs.Windows.{bytes}

-- what a reading means: a gate's operands are the names that its window hands out
abbrev pub meant : Option Shape → Parsed
meant None = malformed
meant (Some (shape.Input n)) = says (input n.bytes.now)
meant (Some (shape.Output n)) = says (output n.bytes.now)
meant (Some (shape.Gate n k c)) = says (gate n.bytes.now k.bytes.now (names_left c))

-- the names stand at their places of the text
abbrev pub Placed : List ℕ → Option Shape → Type 0
Placed text None = Unit {0}
Placed text (Some (shape.Input n)) = Stands text n
Placed text (Some (shape.Output n)) = Stands text n
Placed text (Some (shape.Gate n k c)) = Stands text n × (c.text.now ≡ text)

-- the line spells this statement, whose names are short
abbrev pub SpellsShort : List ℕ → Statement → Type 0
SpellsShort line s = Spells line s × (LongName s → ⊥)

-- nothing, the statement that the line spells, or the smaller of the refusals 3 and 4 that holds
abbrev pub TextReads : Line → Result (Option Shape) TextFault → Type 0
TextReads l (Ok None) = SaysNothing (bytes l)
TextReads l (Ok (Some (shape.Input n))) = SpellsShort (bytes l) (input n.bytes.now) × Stands l.window.text.now n
TextReads l (Ok (Some (shape.Output n))) = SpellsShort (bytes l) (output n.bytes.now) × Stands l.window.text.now n
TextReads l (Ok (Some (shape.Gate n k c))) = SpellsShort (bytes l) (gate n.bytes.now k.bytes.now (names_left c)) × Stands l.window.text.now n × (c.text.now ≡ l.window.text.now)
TextReads l (Err fault.TooLong) = ⊥
TextReads l (Err (fault.NoStatement k)) = (k ≡ l.number) × NoStatement (bytes l)
TextReads l (Err (fault.LongName k)) = (k ≡ l.number) × ((s : Statement) × Spells (bytes l) s × LongName s)
