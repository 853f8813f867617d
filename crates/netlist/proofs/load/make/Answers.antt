use Rattle.std.proofs.Common.{List, length, subst}
use Rattle.grammar.specs.Rules.{Declaration}
use Rattle.grammar.specs.Reading.{Reads, accepted}
use Rattle.elaborate.proofs.Reading.{text_lines}
use Rattle.bench.specs.SoFar.{declared}
use Rattle.netlist.proofs.Making.{made}
use Rattle.netlist.proofs.load.make.Goals as goal

pub invariant_of-accepted : goal.invariant_of-accepted
invariant_of-accepted c =
    let ds = declared c.read.new.self in
    let P : List Declaration → Type 0 = λ before. Reads c.args.text.now before accepted ds in
    record { rising = (text_lines (subst P c.in_ok-declarations.ensures c.in_ok-read.ensures.reads)).1.rising }

pub returns : goal.returns
returns c =
    let ds = declared c.read.new.self in
    let P : List Declaration → Type 0 = λ before. Reads c.args.text.now before accepted ds in
    made c.args.text.now ds (length c.args.cells.now) (length c.args.links.now) c.build.result (c.if-cells-lt-CELLS.false, c.if-links-lt-LINKS.false) (subst P c.in_ok-declarations.ensures c.in_ok-read.ensures.reads) c.build.ensures
