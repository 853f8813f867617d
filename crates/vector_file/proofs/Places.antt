-- The same bytes in another form, at the start of a buffer.
use Rattle.std.proofs.Common.{◌≡◌, ℕ, List, ◌++◌, length, drop, ap, ◌∙◌}
use Rattle.report.specs.Outcome.{Placed}

pub placed_same : (before after : List ℕ) (n : ℕ) {bytes others : List ℕ} → bytes ≡ others → Placed bytes before n after → Placed others before n after
placed_same before after n e p = (p.0 ∙ ap length e, p.1 ∙ ap (λ zs. zs ++ drop n before) e)
