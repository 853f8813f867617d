use Rattle.std.proofs.Common.{◌≡◌, List, map, length, take, sym, ap, subst, arith}
use Rattle.std.proofs.lemmas.List.{length-map, take_all}
use Rattle.std.proofs.lemmas.Result.{err_from_is_err_and}
use Rattle.grammar.specs.Rules.{Declaration, nets, pins, pins_of}
use Rattle.bench.specs.SoFar.{items}
use Rattle.bench.specs.Statements.{declaration}
use Rattle.netlist.specs.Accepted.{declared_in}
use Rattle.netlist.specs.Laid.{LaidIn}
use Rattle.netlist.specs.Resolved.{Covered}
use Rattle.netlist.proofs.LayAll.{fits_next, next_laid, first_undefined}
use Rattle.netlist.proofs.resolve.lay_out.Goals as goal

pub loop-declaration-init : goal.loop-declaration-init
loop-declaration-init c = (c.in_ok-tables.ensures (nets (declared_in c.args.text)), λ n (i, l, e). absurd (omega (arith, l)))

pub lay_one-requires : goal.lay_one-requires
lay_one-requires c =
    let d = c.args.text.declarations.now in
    fits_next c.list-declaration-items.result.now (declared_in c.args.text) (ap (map declaration) (sym c.list-declaration-items.ensures)) c.loop-declaration.declaration-index c.declaration-item.result c.loop-declaration-test.true c.declaration-item.is c.loop-declaration.tables d.within d.proper c.loop-declaration.invariant.0

pub returns-in_err-lay_one : goal.returns-in_err-lay_one
returns-in_err-lay_one c =
    let p = err_from_is_err_and c.from_residual-in_err-lay_one.result c.from_residual-in_err-lay_one.ensures.1 in
    rw (p.1, p.2, c.in_err-lay_one.ensures.0) (first_undefined c.list-declaration-items.result.now (declared_in c.args.text) (ap (map declaration) (sym c.list-declaration-items.ensures)) c.loop-declaration.declaration-index c.declaration-item.result c.loop-declaration-test.true c.declaration-item.is pins_of c.loop-declaration.invariant.1 c.in_err-lay_one.ensures.1)

pub loop-declaration-preserved : goal.loop-declaration-preserved
loop-declaration-preserved c =
    let ds = declared_in c.args.text in
    next_laid c.list-declaration-items.result.now ds (ap (map declaration) (sym c.list-declaration-items.ensures)) c.loop-declaration.declaration-index c.declaration-item.result c.loop-declaration-test.true c.declaration-item.is (nets ds) c.loop-declaration.tables c.lay_one.new.tables c.loop-declaration.invariant c.in_ok-lay_one.ensures

pub returns : goal.returns
returns c =
    let ds = declared_in c.args.text in
    let all : take c.loop-declaration.declaration-index ds ≡ ds = take_all c.loop-declaration.declaration-index ds (omega (arith, c.loop-declaration-test.false, ap length c.list-declaration-items.ensures, length-map (items c.args.text.declarations.now) declaration)) in
    let P : List Declaration → Type 0 = λ es. LaidIn (nets ds) es c.loop-declaration.tables × Covered (nets ds) (pins es) in
    subst P all c.loop-declaration.invariant
