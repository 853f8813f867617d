use Rattle.std.proofs.Common.{◌≡◌, ℕ, ◌<◌, [], vec_items, vec_capacity}
use Rattle.walk.specs.declared.mark.Mark.TheVariants.{Done}
use Rattle.walk.specs.Walks.{Walk, mark_at}
use Rattle.order.specs.Cells.{cells_in}
use Rattle.order.proofs.arrange.Given as goal

abbrev pub invariant-loop-k : goal.invariant-loop-k
invariant-loop-k l =
    Walk (cells_in l.gates) (vec_items l.order) [] l.marks ×
    ((j : ℕ) → j < l.k → mark_at l.marks j ≡ Done) ×
    (vec_capacity l.order ≡ vec_capacity l.initial.order)
