use Rattle.std.proofs.Common.{◌≡◌, List}
use Rattle.grammar.specs.Lines.{lines}
use Rattle.grammar.specs.Rules.{Declaration}
use Rattle.grammar.specs.Reading.{Answer, ReadsFrom}
use Rattle.bench.specs.SoFar.{items, declared}
use Rattle.bench.specs.Statements.{AllStand}
use Rattle.bench.proofs.Steps.{Goes}
use Rattle.bench.proofs.declarations.Declarations.read.Given as goal

-- whatever comes of the lines left comes of all lines, and what stood in the text still stands
abbrev pub invariant-loop-line : goal.invariant-loop-line
invariant-loop-line l =
    ((a : Answer) (es : List Declaration) → Goes l.line-iterator l.self a es → ReadsFrom 1 (declared l.initial.self) (lines l.text) a es) × (AllStand l.text (items l.initial.self) → AllStand l.text (items l.self)) × (l.line-iterator.text.now ≡ l.text)
