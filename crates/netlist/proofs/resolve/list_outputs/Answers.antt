use Rattle.std.proofs.Common.{◌≡◌, ℕ, ◌++◌, List, [], map, length, take, vec_items, vec_capacity, sym, ap, ◌∙◌, subst, arith}
use Rattle.std.proofs.lemmas.List.{append-nil, length-map, take_all}
use Rattle.std.proofs.lemmas.Result.{err_from_is_err_and}
use Rattle.elaborate.specs.Elaborate.{place_of}
use Rattle.grammar.specs.Rules.{Declaration, nets, outputs, output_of}
use Rattle.bench.specs.SoFar.{items}
use Rattle.bench.specs.Statements.{declaration, said}
use Rattle.netlist.specs.Accepted.{declared_in}
use Rattle.netlist.specs.Resolved.{Covered}
use Rattle.netlist.proofs.LayAll.{within_limits_lem, output_room, next_listed, first_undefined}
use Rattle.netlist.proofs.Resolving.{no_names, covered_more, uncovered_here, resolved_more}
use Rattle.netlist.proofs.resolve.list_outputs.Goals as goal
use Rattle.netlist.proofs.resolve.list_outputs.Goals.{in-Some+in_ok-number_of, in_default}

pub returns-in_err-number_of : goal.returns-in_err-number_of
returns-in_err-number_of c =
    let ds = declared_in c.args.text in
    let p = err_from_is_err_and c.from_residual-in_err-number_of.result c.from_residual-in_err-number_of.ensures.1 in
    rw (p.1, p.2, c.in_err-number_of.ensures.0) (first_undefined c.list-declaration-items.result.now ds (ap (map declaration) (sym c.list-declaration-items.ensures)) c.loop-declaration.declaration-index c.declaration-item.result c.loop-declaration-test.true c.declaration-item.is output_of c.loop-declaration.invariant.0.1
    (uncovered_here (nets ds) [] (output_of (said c.declaration-item.result.says)) c.in-Some.name.bytes.now (sym c.in-Some.ensures.output) c.in_err-number_of.ensures.1))

pub push_reserved-requires : goal.push_reserved-requires
push_reserved-requires c =
    let d = c.args.text.declarations.now in
    let ds = declared_in c.args.text in
    let room = output_room c.list-declaration-items.result.now ds (ap (map declaration) (sym c.list-declaration-items.ensures)) c.loop-declaration.declaration-index c.declaration-item.result c.loop-declaration-test.true c.declaration-item.is (nets ds) (vec_items c.loop-declaration.outputs) (within_limits_lem ds d.within).3 c.loop-declaration.invariant.0.0 in
    omega (arith, room, ap length c.in-Some.ensures.output, c.loop-declaration.invariant.1, c.loop-declaration.outputs.ok.0)

pub loop-declaration-preserved : goal.loop-declaration-preserved
loop-declaration-preserved c =
    let ds = declared_in c.args.text in
    let ns = nets ds in
    let os = vec_items c.loop-declaration.outputs in
    let all = output_of (said c.declaration-item.result.says) in
    let next = next_listed c.list-declaration-items.result.now ds (ap (map declaration) (sym c.list-declaration-items.ensures)) c.loop-declaration.declaration-index c.declaration-item.result c.loop-declaration-test.true c.declaration-item.is ns os (vec_items c.match-lists.outputs) c.loop-declaration.invariant.0 in
    elim c.match-lists.branch [
      | in-Some+in_ok-number_of w ↦ (
          let one = sym w.in-Some.ensures.output in
          let found = w.in_ok-number_of.ensures in
          let pushed = w.push_reserved.ensures in
          let placed = sym (append-nil (vec_items w.push_reserved.new.self)) ∙ resolved_more (place_of ns) os (vec_items w.push_reserved.new.self) [] all w.in-Some.name.bytes.now w.in_ok-number_of.field-0 one found.1 pushed.items in (
            next (covered_more ns [] all w.in-Some.name.bytes.now one found.0 (λ m (i, l, e). absurd (omega (arith, l)))) (ap vec_items w.outputs-is ∙ placed),
            omega (arith, ap vec_capacity w.outputs-is, pushed.capacity, c.loop-declaration.invariant.1),
          ))
      | in_default w ↦ (
          let none : all ≡ [] = sym c.lists.ensures.output ∙ no_names c.lists.result w.in_default.not-Some in
          let P : List (List ℕ) → Type 0 = λ zs. Covered ns zs × (os ≡ os ++ map (place_of ns) zs) in
          let both = subst P (sym none) (λ m (i, l, e). absurd (omega (arith, l)), sym (append-nil os)) in
          (next both.0 (ap vec_items w.outputs-is ∙ both.1), omega (arith, ap vec_capacity w.outputs-is, c.loop-declaration.invariant.1)))
    ]

pub returns : goal.returns
returns c =
    let ds = declared_in c.args.text in
    let all : take c.loop-declaration.declaration-index ds ≡ ds = take_all c.loop-declaration.declaration-index ds (omega (arith, c.loop-declaration-test.false, ap length c.list-declaration-items.ensures, length-map (items c.args.text.declarations.now) declaration)) in
    let P : List Declaration → Type 0 = λ es. (vec_items c.loop-declaration.outputs ≡ map (place_of (nets ds)) (outputs es)) × Covered (nets ds) (outputs es) in
    subst P all c.loop-declaration.invariant.0
