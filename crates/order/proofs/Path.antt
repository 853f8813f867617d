-- A push onto the path, which is never full.
use Rattle.std.proofs.Common.{◌≡◌, ◌<◌, true, [], ◌∷◌, ◌++◌, length, is_ok, Ok, Err, Result, refl, arith}
use Rattle.model.specs.declared.full.Full.{Full}
use Rattle.cells.specs.declared.stack.Stack.{Stack}
use Rattle.cells.specs.Stacks.{held, room, Pushed}

module _ {X U : Type 0} (before after : Stack X) (x : X) where
  pub pushes : (r : Result U Full) → length (held before) < room before → Pushed before x r after → is_ok r ≡ true
  pushes (Ok u) free pushed = refl
  pushes (Err e) free pushed = absurd (omega (arith, pushed.0))

  pub lies : (r : Result U Full) → length (held before) < room before → Pushed before x r after → (held after ≡ held before ++ x ∷ []) × (room after ≡ room before)
  lies (Ok u) free pushed = pushed
  lies (Err e) free pushed = absurd (omega (arith, pushed.0))
