use Rattle.std.proofs.Common.{arith}
use Rattle.std.proofs.lemmas.Bool.Decides.{nat_tests}
use Rattle.bench.specs.Statements.{declaration}
use Rattle.bench.specs.SoFar.{declared}
use Rattle.bench.proofs.Counted.{exceeds}
use Rattle.bench.proofs.declarations.Declarations.exceeds.Goals as goal
use Rattle.bench.proofs.declarations.Declarations.exceeds.Goals.{then-more-so_far, else-more-so_far, then-more-so_far-2, else-more-so_far-2}

pub returns-then-more-so_far-3 : goal.returns-then-more-so_far-3
returns-then-more-so_far-3 c =
    let d = c.args.self.now in
    let h = exceeds (declared d) (declaration c.args.next) c.counts-so_far.result c.counts-more.result c.counts-so_far.ensures c.counts-more.ensures d.within in
    elim c.if-more-so_far-2.branch [
      | then-more-so_far-2 w ↦ elim c.if-more-so_far.branch [
        | then-more-so_far v ↦ grind (arith, nat_tests, h, w.value-is, v.if-more-so_far.true)
        | else-more-so_far v ↦ grind (arith, nat_tests, h, w.value-is, w.if-more-so_far-2.true, v.value-is)
      ]
      | else-more-so_far-2 w ↦ grind (arith, nat_tests, h, w.value-is, c.if-more-so_far-3.true)
    ]

pub returns-else-more-so_far-3 : goal.returns-else-more-so_far-3
returns-else-more-so_far-3 c =
    let d = c.args.self.now in
    let h = exceeds (declared d) (declaration c.args.next) c.counts-so_far.result c.counts-more.result c.counts-so_far.ensures c.counts-more.ensures d.within in
    elim c.if-more-so_far-2.branch [
      | then-more-so_far-2 w ↦ grind (arith, w.value-is, c.if-more-so_far-3.false)
      | else-more-so_far-2 w ↦ elim c.if-more-so_far.branch [
        | then-more-so_far v ↦ grind (arith, v.value-is, w.if-more-so_far-2.false)
        | else-more-so_far v ↦ grind (arith, nat_tests, h, w.value-is, v.value-is, w.if-more-so_far-2.false, v.if-more-so_far.false, c.if-more-so_far-3.false)
      ]
    ]
