-- What the reader of statements answers of a line.
use Rattle.std.specs.Prelude.{◌≡◌, ℕ, ◌<◌, List, [], ◌∷◌, length, Some, None, Ok, Err, Option, Result}
use Rattle.model.specs.declared.counts.Counts.{Counts}
use Rattle.model.specs.Kinds.{word}
use Rattle.model.specs.Refusals.{refusal}
use Rattle.names.specs.declared.name.Name.{Name}
use Rattle.names.specs.Places.{Stands}
use Rattle.grammar.specs.Grammar.{input, output, gate, Spells, SaysNothing}
use Rattle.grammar.specs.Grammar as grammar
use Rattle.grammar.specs.Rules.{Breaks, Among, net_of, input_of, output_of, pins_of}
use Rattle.grammar.specs.Rules as rules
use Rattle.grammar.specs.Reading.{Refused}
use Rattle.text.specs.declared.reader.Line.{Line}
use Rattle.text.specs.Tokens.{names_left}
use Rattle.text.specs.Windows.{bytes}
use Rattle.bench.specs.declared.fault.StatementFault.{StatementFault}
use Rattle.bench.specs.declared.statement.Statement.{Statement}
use Rattle.bench.specs.declared.statement.Statement.TheVariants as statement
use Rattle.bench.specs.declared.statement.Declaration.{Declaration}
use Rattle.bench.specs.Faults.{statement_refusal}

abbrev pub said : Statement → grammar.Statement
said (statement.Input n) = input n.bytes.now
said (statement.Output n) = output n.bytes.now
said (statement.Gate n k c) = gate n.bytes.now (word k) (names_left c)

-- the name of the net that it defines, and of the one that it lists as an output
abbrev pub net_name : Statement → Option Name
net_name (statement.Input n) = Some n
net_name (statement.Output n) = None
net_name (statement.Gate n k c) = Some n

abbrev pub output_name : Statement → Option Name
output_name (statement.Input n) = None
output_name (statement.Output n) = Some n
output_name (statement.Gate n k c) = None

-- a name, where there is one, as a list, and that it stands among others
abbrev pub names_in : Option Name → List (List ℕ)
names_in None = []
names_in (Some n) = n.bytes.now ∷ []

abbrev pub Holds : List (List ℕ) → Option Name → Type 0
Holds ns None = ⊥
Holds ns (Some n) = Among ns n.bytes.now

-- how many nets, inputs, outputs and pins it adds
abbrev pub size_of : grammar.Statement → Counts
size_of s = record { nets = length (net_of s); inputs = length (input_of s); outputs = length (output_of s); pins = length (pins_of s) }

abbrev pub declaration : Declaration → rules.Declaration
declaration d = record { line = d.line; says = said d.says }

-- the name stands at its place of the text, and the operands are read from there
abbrev pub StatementPlaced : List ℕ → Statement → Type 0
StatementPlaced text (statement.Input n) = Stands text n
StatementPlaced text (statement.Output n) = Stands text n
StatementPlaced text (statement.Gate n k c) = Stands text n × (c.text.now ≡ text)

-- the name stands at its place of the text, and so does each operand that is handed out
abbrev pub StandsIn : List ℕ → Statement → Type 0
StandsIn text (statement.Input n) = Stands text n
StandsIn text (statement.Output n) = Stands text n
StandsIn text (statement.Gate n k c) = Stands text n × ((m : Name) → Stands c.text.now m → Stands text m)

abbrev pub AllStand : List ℕ → List Declaration → Type 0
AllStand text [] = Unit {0}
AllStand text (d ∷ ds) = StandsIn text d.says × AllStand text ds

-- a rule of the line alone, and none of a smaller number, is broken, whatever was declared before
abbrev pub RefusedAlone : Line → ℕ → Type 0
RefusedAlone l n = (ds : List rules.Declaration) → Refused ds l.number (bytes l) n

-- no rule of the line alone is broken
abbrev pub CleanAlone : Line → Type 0
CleanAlone l = (ds : List rules.Declaration) (n : ℕ) → n < 7 → Breaks ds l.number (bytes l) n → ⊥

-- nothing, the statement that the line spells, or the smallest of the refusals 3 to 6 that holds
abbrev pub StatementReads : Line → Result (Option Statement) StatementFault → Type 0
StatementReads l (Ok None) = SaysNothing (bytes l)
StatementReads l (Ok (Some s)) = Spells (bytes l) (said s) × CleanAlone l × StatementPlaced l.window.text.now s
StatementReads l (Err fault) = (n : ℕ) × (statement_refusal fault ≡ refusal n l.number) × RefusedAlone l n
