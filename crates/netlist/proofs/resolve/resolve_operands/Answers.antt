use Rattle.std.proofs.Common.{◌++◌, map, length, vec_items, refl, ap, subst, ◌∙◌, arith}
use Rattle.std.proofs.lemmas.Result.{err_from_is_err_and}
use Rattle.grammar.specs.Rules.{nets}
use Rattle.text.specs.Tokens.{names_of}
use Rattle.elaborate.specs.Elaborate.{place_of}
use Rattle.netlist.specs.Accepted.{declared_in}
use Rattle.netlist.specs.Resolved.{Covered, Uncovered}
use Rattle.netlist.proofs.Resolving.{covered_more, uncovered_more, uncovered_here, resolved_more}
use Rattle.netlist.proofs.resolve.resolve_operands.Goals as goal

pub returns-in_err-number_of-clause-resolves : goal.returns-in_err-number_of-clause-resolves
returns-in_err-number_of-clause-resolves c =
    let ns = nets (declared_in c.args.text) in
    let p = err_from_is_err_and c.from_residual.result c.from_residual.ensures.1 in
    rw (p.1, p.2) (c.in_err-number_of.ensures.0, c.loop-operand.invariant.4 (uncovered_here ns (names_of c.next.new.self) (names_of c.loop-operand.operand-iterator) c.in-Some.operand.bytes.now c.in-Some.ensures.steps.0 c.in_err-number_of.ensures.1))

pub loop-operand-init : goal.loop-operand-init
loop-operand-init c =
    let ns = nets (declared_in c.args.text) in
    let all = ap names_of c.into_iter-operand-iterator.ensures.into_iter_gives ∙ c.names-operand-items.ensures.left in (
      ap (λ os. vec_items c.args.pins.now ++ map (place_of ns) os) all,
      omega (arith, ap length all, c.requires),
      refl,
      λ h. subst (Covered ns) all h,
      λ h. subst (Uncovered ns) all h,
    )

pub loop-operand-preserved : goal.loop-operand-preserved
loop-operand-preserved c =
    let ns = nets (declared_in c.args.text) in
    let n = c.in-Some.operand.bytes.now in
    let left = names_of c.next.new.self in
    let all = names_of c.loop-operand.operand-iterator in
    let given = c.in-Some.ensures.steps.0 in
    let found = c.in_ok-number_of.ensures in
    let pushed = c.push_reserved.ensures in (
      resolved_more (place_of ns) (vec_items c.loop-operand.pins) (vec_items c.push_reserved.new.self) left all n c.in_ok-number_of.field-0 given found.1 pushed.items ∙ c.loop-operand.invariant.0,
      omega (arith, c.loop-operand.invariant.1, ap length given, pushed.len, pushed.capacity),
      pushed.capacity ∙ c.loop-operand.invariant.2,
      λ h. c.loop-operand.invariant.3 (covered_more ns left all n given found.0 h),
      λ h. c.loop-operand.invariant.4 (uncovered_more ns left all n given h),
    )
