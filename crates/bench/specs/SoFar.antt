-- What has been declared so far, and what one line, one statement and a whole text do to it.
use Rattle.std.specs.Prelude.{◌≡◌, ℕ, ◌⊎◌, List, [], ◌∷◌, ◌++◌, map, length, Ok, Err, vec_items, Result}
use Rattle.model.specs.declared.counts.Counts.{Counts}
use Rattle.model.specs.Refusals.{refusal}
use Rattle.grammar.specs.Grammar.{SaysNothing}
use Rattle.grammar.specs.Rules.{Declaration, nets, inputs, outputs, pins, Redefines, Relists, BeyondLimit}
use Rattle.grammar.specs.Reading.{Refused, Accepted, Answer, accepted, refused}
use Rattle.text.specs.declared.reader.Line.{Line}
use Rattle.text.specs.Windows.{bytes}
use Rattle.bench.specs.declared.declarations.Declarations.{Declarations}
use Rattle.bench.specs.declared.fault.StatementFault.{StatementFault}
use Rattle.bench.specs.declared.fault.StatementFault.TheVariants as fault
use Rattle.bench.specs.Faults.{statement_refusal}
use Rattle.bench.specs.declared.statement.Declaration as code
use Rattle.bench.specs.declared.statement.Statement.{Statement}
use Rattle.bench.specs.Statements.{said, declaration, StatementPlaced}

-- the statements with their lines, in line order
abbrev pub items : Declarations → List code.Declaration
items d = vec_items d.list

-- what they say
abbrev pub declared : Declarations → List Declaration
declared d = map declaration (items d)

abbrev pub counts_of : List Declaration → Counts
counts_of ds = record { nets = length (nets ds); inputs = length (inputs ds); outputs = length (outputs ds); pins = length (pins ds) }

-- one statement more behind the others
abbrev pub Grows : Declarations → ℕ → Statement → Declarations → Type 0
Grows d k s e = items e ≡ items d ++ record { line = k; says = s } ∷ []

-- one statement more, or the smallest of the refusals 7 to 9 that holds, and then nothing changes
abbrev pub Declares : Declarations → ℕ → Statement → Result (Unit {0}) StatementFault → Declarations → Type 0
Declares d k s (Ok u) e = (Redefines (declared d) (said s) → ⊥) × (Relists (declared d) (said s) → ⊥) × (BeyondLimit (declared d) k (said s) → ⊥) × Grows d k s e
Declares d k s (Err (fault.DefinedBefore j)) e = (j ≡ k) × Redefines (declared d) (said s) × (e ≡ d)
Declares d k s (Err (fault.ListedBefore j)) e = (j ≡ k) × (Redefines (declared d) (said s) → ⊥) × Relists (declared d) (said s) × (e ≡ d)
Declares d k s (Err (fault.BeyondLimit j)) e = (j ≡ k) × (Redefines (declared d) (said s) → ⊥) × (Relists (declared d) (said s) → ⊥) × BeyondLimit (declared d) k (said s) × (e ≡ d)
Declares d k s (Err (fault.Text f)) e = ⊥
Declares d k s (Err (fault.UnknownKind j)) e = ⊥
Declares d k s (Err (fault.OperandCount j)) e = ⊥

-- a line that says nothing, one statement more, or the smallest refusal that holds
abbrev pub ReadsLine : Declarations → Line → Result (Unit {0}) StatementFault → Declarations → Type 0
ReadsLine d l (Ok u) e = (SaysNothing (bytes l) × (e ≡ d)) ⊎ ((s : Statement) × Accepted (declared d) l.number (bytes l) (said s) × StatementPlaced l.window.text.now s × Grows d l.number s e)
ReadsLine d l (Err f) e = (n : ℕ) × (statement_refusal f ≡ refusal n l.number) × Refused (declared d) l.number (bytes l) n × (e ≡ d)

abbrev pub answer : Result (Unit {0}) StatementFault → Answer
answer (Ok u) = accepted
answer (Err f) = refused (statement_refusal f)
