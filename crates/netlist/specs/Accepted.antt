use Rattle.std.specs.Prelude.{List}
use Rattle.grammar.specs.Rules.{Declaration}
use Rattle.bench.specs.SoFar.{declared}
use Rattle.netlist.specs.declared.accepted.Accepted.{Accepted}

-- what they say
abbrev pub declared_in : Accepted → List Declaration
declared_in a = declared a.declarations.now
