use Rattle.std.proofs.Common.{◌≡◌, ℕ, ◌+◌, ◌-◌, List, [], ◌∷◌, ◌++◌, map, length, vec_items, vec_len, sym, ap, ◌∙◌, subst, arith}
use Rattle.std.proofs.lemmas.List.{length-append, length-map}
use Rattle.std.proofs.lemmas.Result.{err_from_is_err_and}
use Rattle.circuit.specs.declared.net.Net.TheVariants.{Gate}
use Rattle.elaborate.specs.Elaborate.{place_of}
use Rattle.grammar.specs.Rules.{nets, pins_of}
use Rattle.bench.specs.declared.statement.Statement.{Statement}
use Rattle.bench.specs.Statements.{said}
use Rattle.text.specs.Tokens.{names_left}
use Rattle.netlist.specs.Accepted.{declared_in}
use Rattle.netlist.specs.Resolved.{Uncovered}
use Rattle.netlist.proofs.LayOne.{lays_input, lays_output, lays_gate}
use Rattle.netlist.proofs.resolve.lay_one.Goals as goal

-- as many pins more as there are operands
grown : (ps qs : List ℕ) (os : List (List ℕ)) (f : List ℕ → ℕ) → qs ≡ ps ++ map f os → length qs ≡ length ps + length os
grown ps qs os f e = ap length e ∙ length-append ps (map f os) ∙ ap (λ (n : ℕ). length ps + n) (length-map os f)

pub returns-in-Input : goal.returns-in-Input
returns-in-Input c =
    lays_input (nets (declared_in c.args.text)) c.args.tables.now _ c.args.declaration c.in-Input.name c.in-Input.is c.push.ensures.definitions c.push.ensures.nets c.push.ensures.pins (omega (arith, c.push.ensures.inputs))

pub returns-in-Output : goal.returns-in-Output
returns-in-Output c = lays_output (nets (declared_in c.args.text)) c.args.tables.now c.args.declaration c.in-Output.field-0 c.in-Output.is

pub returns-in_err-resolve_operands-in-Gate : goal.returns-in_err-resolve_operands-in-Gate
returns-in_err-resolve_operands-in-Gate c =
    let p = err_from_is_err_and c.from_residual.result c.from_residual.ensures.1 in
    let P : Statement → Type 0 = λ s. Uncovered (nets (declared_in c.args.text)) (pins_of (said s)) in
    rw (p.1, p.2) (c.in_err-resolve_operands-in-Gate.ensures.resolves.0, subst P (sym c.in-Gate.is) c.in_err-resolve_operands-in-Gate.ensures.resolves.1)

pub returns-in_ok-resolve_operands-in-Gate : goal.returns-in_ok-resolve_operands-in-Gate
returns-in_ok-resolve_operands-in-Gate c =
    let t = c.args.tables.now in
    let os = names_left c.in-Gate.operands in
    let resolved = c.in_ok-resolve_operands-in-Gate.ensures.resolves in
    let first : c.len-first.result ≡ vec_len t.pins = c.len-first.ensures in
    let count : c.len.result - c.len-first.result ≡ length os = omega (arith, grown _ _ os (place_of (nets (declared_in c.args.text))) resolved.1, c.len.ensures, first, t.pins.ok.0, c.resolve_operands.new.pins.ok.0) in
    let table = c.push-in-Gate.ensures.nets ∙ ap (λ (x : ℕ). vec_items t.nets ++ Gate c.in-Gate.kind x (c.len.result - c.len-first.result) ∷ []) first ∙ ap (λ (x : ℕ). vec_items t.nets ++ Gate c.in-Gate.kind (vec_len t.pins) x ∷ []) count in
    let same = ap vec_items c.push-in-Gate.ensures.pins in
    lays_gate (nets (declared_in c.args.text)) t _ c.args.declaration c.in-Gate.name c.in-Gate.kind c.in-Gate.operands c.in-Gate.is c.push-in-Gate.ensures.definitions resolved.0 (same ∙ resolved.1) table c.push-in-Gate.ensures.inputs c.requires.few
