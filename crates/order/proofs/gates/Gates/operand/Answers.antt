use Rattle.std.proofs.Common.{◌<◌, length, get_or, sym, ap, subst}
use Rattle.walk.proofs.Tables.{read_net_lem}
use Rattle.order.specs.Cells.{Reads}
use Rattle.order.proofs.gates.Gates.operand.Goals as goal

pub returns-clause-net : goal.returns-clause-net
returns-clause-net c =
    let read = subst (Reads c.args.self c.args.net) c.unwrap.ensures c.operands.ensures in
    let same = ap (λ z. get_or z c.args.place 0) read.1 in
    subst (λ z. z < length c.args.self.nets.now) (sym same) (read_net_lem c.args.self.nets.now c.args.self.pins.now c.args.self.formed c.args.net c.args.place c.requires.net c.requires.place)
