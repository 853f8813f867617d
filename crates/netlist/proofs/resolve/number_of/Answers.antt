use Rattle.std.proofs.Common.{subst}
use Rattle.grammar.specs.Rules.{nets}
use Rattle.names.specs.Tables.{LastPlace}
use Rattle.netlist.specs.Accepted.{declared_in}
use Rattle.netlist.proofs.Resolving.{found_place, found_among}
use Rattle.netlist.proofs.resolve.number_of.Goals as goal

pub returns : goal.returns
returns c =
    let ns = nets (declared_in c.args.text) in
    let found = subst (LastPlace ns c.args.name.now) c.in_ok-net.ensures.ok_part c.find_net.ensures in
    (found_among ns c.args.name.now c.in_ok-net.net found, found_place ns c.args.name.now c.in_ok-net.net c.args.text.declarations.now.proper.distinct found)
