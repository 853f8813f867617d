use Rattle.std.proofs.Common.{Some, sym, ap, ◌∙◌}
use Rattle.std.proofs.lemmas.Result.{err_from_is_err_and}
use Rattle.model.specs.Kinds.{takes}
use Rattle.text.specs.Tokens.{names_left}
use Rattle.text.proofs.Handed.{names_counted}
use Rattle.bench.proofs.Broken.{text_refused, input_read, output_read, gate_accepted, unknown_refused, miscount_refused}
use Rattle.bench.proofs.statement.read_statement.Goals as goal

pub returns-in_err-shape : goal.returns-in_err-shape
returns-in_err-shape c =
    let p = err_from_is_err_and c.from_residual.result c.from_residual.ensures.1 in
    rw (p.1, p.2) (text_refused c.args.line c.in_err-shape.field-0.0 c.in_err-shape.ensures)

pub returns-in_default-try_from : goal.returns-in_default-try_from
returns-in_default-try_from c =
    unknown_refused c.args.line c.in_ok-shape.field-0 c.in-Gate.name c.in-Gate.word c.in-Gate.operands c.in_ok-shape.ensures (c.in-Some.is ∙ ap Some c.in-Gate.is) c.in_default-try_from.ensures

pub returns-in-Input : goal.returns-in-Input
returns-in-Input c =
    input_read c.args.line c.in_ok-shape.field-0 c.in-Input.name c.in_ok-shape.ensures (c.in-Some.is ∙ ap Some c.in-Input.is)

pub returns-in-Output : goal.returns-in-Output
returns-in-Output c =
    output_read c.args.line c.in_ok-shape.field-0 c.in-Output.name c.in_ok-shape.ensures (c.in-Some.is ∙ ap Some c.in-Output.is)

pub returns-then-takes : goal.returns-then-takes
returns-then-takes c =
    let count = names_counted c.names.result c.count.result (names_left c.in-Gate.operands) c.count.ensures.ran c.names.ensures.left in
    gate_accepted c.args.line c.in_ok-shape.field-0 c.in-Gate.name c.in-Gate.word c.in-Gate.operands c.in-Ok.kind c.in_ok-shape.ensures (c.in-Some.is ∙ ap Some c.in-Gate.is) c.in-Ok.ensures
    (sym (c.if-takes.ensures ∙ ap (takes c.in-Ok.kind) count))

pub returns-else-takes : goal.returns-else-takes
returns-else-takes c =
    let count = names_counted c.names.result c.count.result (names_left c.in-Gate.operands) c.count.ensures.ran c.names.ensures.left in
    miscount_refused c.args.line c.in_ok-shape.field-0 c.in-Gate.name c.in-Gate.word c.in-Gate.operands c.in-Ok.kind c.in_ok-shape.ensures (c.in-Some.is ∙ ap Some c.in-Gate.is) c.in-Ok.ensures
    (sym (c.if-takes.ensures ∙ ap (takes c.in-Ok.kind) count))
