use Rattle.std.proofs.Common.{◌≡◌, ◌<◌, ◌≤◌, length, vec_items, vec_capacity, sum_by}
use Rattle.cells.specs.Stacks.{held, room}
use Rattle.walk.specs.Walks.{Following, weight}
use Rattle.order.specs.Cells.{cells_in}
use Rattle.order.proofs.follow.Given as goal

abbrev pub invariant-walk : goal.invariant-walk
invariant-walk l =
    Following (cells_in l.gates) l.start l.initial.marks (vec_items l.order) (held l.path) l.net l.marks ×
    (length l.gates.nets.now ≤ room l.path) ×
    (vec_capacity l.order ≡ vec_capacity l.initial.order) ×
    (l.net < length l.gates.nets.now) ×
    (length l.marks ≡ length l.gates.nets.now)

abbrev pub decreases-walk : goal.decreases-walk
decreases-walk l = sum_by weight l.marks
