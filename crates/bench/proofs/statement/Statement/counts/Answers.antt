use Rattle.std.proofs.Common.{rules}
use Rattle.text.specs.Tokens.{names_left}
use Rattle.text.proofs.Handed.{names_counted}
use Rattle.bench.proofs.statement.Statement.counts.Goals as goal

pub returns-in-Gate : goal.returns-in-Gate
returns-in-Gate c =
    let count = names_counted c.names.result c.count.result (names_left c.in-Gate.operands) c.count.ensures.ran c.names.ensures.left in
    search (rules, count)
