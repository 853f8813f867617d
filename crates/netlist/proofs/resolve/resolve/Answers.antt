use Rattle.std.proofs.Common.{vec_items, inl, inr, arith}
use Rattle.std.proofs.lemmas.Bool.Decides.{nat_tests}
use Rattle.std.proofs.lemmas.Result.{err_from_is_err_and}
use Rattle.grammar.specs.Rules.{nets}
use Rattle.elaborate.specs.Elaborate.{place_of}
use Rattle.elaborate.proofs.Refused.{refused_none}
use Rattle.netlist.specs.Accepted.{declared_in}
use Rattle.netlist.proofs.Refusing.{laying_refused, listing_refused, no_inputs, no_outputs}
use Rattle.netlist.proofs.resolve.resolve.Goals as goal
use Rattle.netlist.proofs.resolve.resolve.Goals.{then-tables-eq0-via-then-tables-eq0, then-tables-eq0-via-else-tables-eq0+then-is_empty}

pub returns-in_err-tables : goal.returns-in_err-tables
returns-in_err-tables c =
    let p = err_from_is_err_and c.from_residual.result c.from_residual.ensures.1 in
    rw (p.1, p.2) (laying_refused (declared_in c.args.text) c.args.text.rising c.in_err-tables.field-0.0 c.in_err-tables.ensures)

pub returns-in_err-outputs : goal.returns-in_err-outputs
returns-in_err-outputs c =
    let p = err_from_is_err_and c.from_residual-in_err-outputs.result c.from_residual-in_err-outputs.ensures.1 in
    rw (p.1, p.2) (listing_refused (declared_in c.args.text) c.args.text.rising c.in_ok-tables.ensures.1 c.in_err-outputs.field-0.0 c.in_err-outputs.ensures)

pub returns-then-tables-eq0 : goal.returns-then-tables-eq0
returns-then-tables-eq0 c =
    let ds = declared_in c.args.text in
    let laid = c.in_ok-tables.ensures in
    let listed = c.in_ok-outputs.ensures in
    refused_none ds laid.1 listed.1 (elim c.then-tables-eq0.branch [
      | then-tables-eq0-via-then-tables-eq0 w ↦ inl (no_inputs ds c.in_ok-tables.tables.inputs w.if-tables-eq0.true laid.0.counted)
      | then-tables-eq0-via-else-tables-eq0+then-is_empty w ↦ inr (no_outputs ds (vec_items c.in_ok-outputs.outputs) (place_of (nets ds)) (grind (arith, nat_tests, w.is_empty.ensures, w.if-is_empty.true, c.in_ok-outputs.outputs.ok.0)) listed.0)
    ])
