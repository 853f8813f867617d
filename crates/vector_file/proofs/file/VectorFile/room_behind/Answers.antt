use Rattle.std.proofs.Common.{◌≤◌, ◌-◌, ◌++◌, length, ap, ◌∙◌, subst, arith}
use Rattle.std.specs.ControlFlow.{continue_value}
use Rattle.std.specs.List.{flat_map}
use Rattle.std.specs.Option.{SomeIff}
use Rattle.std.proofs.lemmas.List.{take_all}
use Rattle.vector_file.specs.Numbers.{numbers_bytes}
use Rattle.vector_file.proofs.Splits.{entry_bytes, header_bytes, file_split, file_left, split_left, split_over}
use Rattle.vector_file.proofs.file.VectorFile.room_behind.Goals as goal

pub loop-entry-init : goal.loop-entry-init
loop-entry-init c =
    let h = c.numbers_length.ensures.value ∙ ap (λ ns. length (numbers_bytes ns)) c.header.ensures in
    let s = c.in_ok-left.ensures in
    file_left c.args.self.now.inputs c.args.self.now.outputs c.args.self.now.deck.now c.numbers_length.result c.args.room c.in_ok-left.left h s.0 s.1

pub returns-in_err-left-2 : goal.returns-in_err-left-2
returns-in_err-left-2 c =
    let f = c.args.self.now in
    let none = c.branch-left-in-loop-entry.ensures ∙ ap continue_value c.in_err-left-2.is in
    let over = subst (λ o. SomeIff o (c.length.result ≤ c.loop-entry.left) (c.loop-entry.left - c.length.result)) none c.checked_sub-in-loop-entry.ensures in
    rw c.from_residual-in_err-left-2.ensures (split_over f.inputs f.outputs f.deck.now c.loop-entry.entry-index c.loop-entry-test.true c.args.room c.loop-entry.left c.length.result c.loop-entry.invariant c.length.ensures.value over)

pub loop-entry-preserved : goal.loop-entry-preserved
loop-entry-preserved c =
    let f = c.args.self.now in
    let s = c.in_ok-left-2.ensures in
    split_left f.inputs f.outputs f.deck.now c.loop-entry.entry-index c.loop-entry-test.true c.args.room c.loop-entry.left c.length.result c.loop-entry.invariant c.length.ensures.value c.in_ok-left-2.left s.0 s.1

pub returns : goal.returns
returns c =
    let f = c.args.self.now in
    omega (arith, c.loop-entry.invariant, ap length (file_split f.inputs f.outputs f.deck.now), ap (λ es. length (header_bytes f.inputs f.outputs f.deck.now ++ flat_map entry_bytes es)) (take_all c.loop-entry.entry-index f.deck.now c.loop-entry-test.false))
