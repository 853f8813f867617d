use Rattle.std.proofs.Common.{◌≡◌, ℕ, ◌-◌, ◌/◌, ◌^◌, ◌<◌, eqb, sym, refl, ◌∙◌, arith}
use Rattle.std.proofs.lemmas.Bool.{eqb-true}
use Rattle.model.proofs.Finite.{at_number}
use Rattle.signal_tests.proofs.lane_mask.Goals as goal

ones : (n : ℕ) → n < 65 → (2 ^ 64 - 1) / 2 ^ (64 - n) ≡ 2 ^ n - 1
ones n h = eqb-true _ _ (at_number 65 (λ n. eqb ((2 ^ 64 - 1) / 2 ^ (64 - n)) (2 ^ n - 1)) refl n h)

pub returns : goal.returns
returns g c =
    let met = g.met.A.Algebra in
    let few = met.operations.few_lanes in
    record { mask = rw (c.LANES.ensures ∙ sym met.lanes) (ones _ (omega (arith, few))) }
