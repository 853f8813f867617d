use Rattle.std.proofs.Common.{◌≡◌, ◌≤◌, ℕ, [], length, get_or, vec_items, vec_capacity}
use Rattle.order.specs.Cells.{cells_in}
use Rattle.netlist.specs.Readers.{lists_in, ReadSoFar}
use Rattle.netlist.proofs.readers.list_readers.Given as goal

-- so many lists, all empty
abbrev pub invariant-loop : goal.invariant-loop
invariant-loop l =
    (length (vec_items l.readers) ≡ l.index) × ((j : ℕ) → get_or (lists_in (vec_items l.readers)) j [] ≡ []) × (length l.gates.nets.now ≤ vec_capacity l.readers)

-- the nets so far are among the readers of what they read
abbrev pub invariant-loop-net : goal.invariant-loop-net
invariant-loop-net l = ReadSoFar (cells_in l.gates) l.net [] (vec_items l.readers)
