use Rattle.std.proofs.Common.{◌+◌, ◌≤◌, ◌++◌, length, take, ap, ◌∙◌, sym, arith}
use Rattle.std.specs.List.{flat_map}
use Rattle.std.proofs.lemmas.List.{take_all}
use Rattle.vector_file.specs.Numbers.{numbers_bytes}
use Rattle.report.proofs.Rest.{placed_next}
use Rattle.vector_file.proofs.Places.{placed_same}
use Rattle.vector_file.proofs.Readable.{equal_files_equal_decks}
use Rattle.vector_file.proofs.Splits.{entry_bytes, header_bytes, file_split, split_next, split_room}
use Rattle.vector_file.proofs.file.VectorFile.write.Goals as goal

pub returns-then-is_none-clause-equal_files_equal_decks :
    goal.returns-then-is_none-clause-equal_files_equal_decks
returns-then-is_none-clause-equal_files_equal_decks c =
    let f = c.args.self.now in equal_files_equal_decks f.inputs f.outputs f.deck.now

pub loop-entry-preserved : goal.loop-entry-preserved
loop-entry-preserved c =
    let f = c.args.self.now in
    let done = header_bytes f.inputs f.outputs f.deck.now ++ flat_map entry_bytes (take c.loop-entry.entry-index f.deck.now) in
    let e = ap (λ ns. done ++ numbers_bytes ns) c.from.ensures ∙ sym (split_next f.inputs f.outputs f.deck.now c.loop-entry.entry-index c.loop-entry-test.true) in
    let r = split_room f.inputs f.outputs f.deck.now c.loop-entry.entry-index c.loop-entry-test.true in
    let l : c.loop-entry.at ≤ length c.loop-entry.out = omega (arith, c.loop-entry.auto.out, c.write_numbers-at.auto.out) in
    let p = placed_next done (numbers_bytes c.from.result) c.args.out.now c.loop-entry.out c.write_numbers-at-in-loop-entry.new.out c.loop-entry.at c.write_numbers-at-in-loop-entry.result l c.loop-entry.invariant.0 c.write_numbers-at-in-loop-entry.ensures in
    (placed_same c.args.out.now _ (c.loop-entry.at + c.write_numbers-at-in-loop-entry.result) e p, c.loop-entry.invariant.1)

pub returns-clause-written : goal.returns-clause-written
returns-clause-written c =
    let f = c.args.self.now in
    let e = ap (λ es. header_bytes f.inputs f.outputs f.deck.now ++ flat_map entry_bytes es) (take_all c.loop-entry.entry-index f.deck.now c.loop-entry-test.false) ∙ sym (file_split f.inputs f.outputs f.deck.now) in
    placed_same c.args.out.now c.loop-entry.out c.loop-entry.at e c.loop-entry.invariant.0

pub returns-clause-equal_files_equal_decks : goal.returns-clause-equal_files_equal_decks
returns-clause-equal_files_equal_decks c =
    let f = c.args.self.now in equal_files_equal_decks f.inputs f.outputs f.deck.now
