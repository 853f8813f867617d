-- From what the declarations of a text come to, to what the text comes to.
use Rattle.std.proofs.Common.{ℕ, List, [], Ok, Err, Result}
use Rattle.grammar.specs.Rules.{Declaration}
use Rattle.grammar.specs.Reading.{Reads, accepted}
use Rattle.elaborate.proofs.Accepted.{well_declared}
use Rattle.elaborate.proofs.LineValues.{names_have_their_lines_values}
use Rattle.elaborate.proofs.Reading.{text_lines}
use Rattle.netlist.specs.declared.fault.LoadFault.{LoadFault}
use Rattle.netlist.specs.declared.fault.LoadFault.TheVariants as fault
use Rattle.netlist.specs.declared.whole.Netlist.{Netlist}
use Rattle.netlist.specs.Loading.{Builds, Enough, Makes}

pub made : (text : List ℕ) (ds : List Declaration) (cells links : ℕ) (r : Result Netlist LoadFault) → Enough cells links → Reads text [] accepted ds → Builds ds r → Makes text cells links r
made text ds cells links (Ok n) e h b =
    let lines = text_lines h in (
      e,
      record {
        declared = ds;
        read = h;
        accepted_whole = b.2;
        netlist = b.0;
        names = b.1;
        pins_in_line_order = b.4;
        values = names_have_their_lines_values ds (well_declared lines.0 ds lines.1 b.2 b.3);
      },
    )
made text ds cells links (Err fault.Memory) e h b = tt
made text ds cells links (Err fault.FewCells) e h b = absurd b
made text ds cells links (Err (fault.Statement f)) e h b = absurd b
made text ds cells links (Err (fault.UndefinedOperand line)) e h b = (e, (ds, h, b))
made text ds cells links (Err (fault.UndefinedOutput line)) e h b = (e, (ds, h, b))
made text ds cells links (Err fault.NoPort) e h b = (e, (ds, h, b))
made text ds cells links (Err (fault.Circle line)) e h b = (e, (ds, h, b))
