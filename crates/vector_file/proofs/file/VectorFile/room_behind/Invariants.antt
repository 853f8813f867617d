use Rattle.std.proofs.Common.{◌≡◌, ◌+◌, ◌++◌, length, take}
use Rattle.std.specs.List.{flat_map}
use Rattle.vector_file.proofs.Splits.{entry_bytes, header_bytes}
use Rattle.vector_file.proofs.file.VectorFile.room_behind.Given as goal

abbrev pub invariant-loop-entry : goal.invariant-loop-entry
invariant-loop-entry l =
    l.left + length (header_bytes l.self.inputs l.self.outputs l.self.deck.now ++ flat_map entry_bytes (take l.entry-index l.self.deck.now)) ≡ l.fn.room
