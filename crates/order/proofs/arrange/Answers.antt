use Rattle.std.proofs.Common.{◌≡◌, vec_items, vec_capacity, length, replicate, sym, refl, ap, ◌∙◌, subst, arith, rules}
use Rattle.std.proofs.lemmas.List.{get_or-replicate}
use Rattle.std.proofs.lemmas.Result.{err_from_is_err_and}
use Rattle.walk.specs.declared.mark.Mark.TheVariants.{New}
use Rattle.walk.specs.Walks.{mark_at}
use Rattle.walk.proofs.Tables.{cells_size}
use Rattle.walk.proofs.Circle.{sorted_free}
use Rattle.walk.proofs.Walking.{all_done}
use Rattle.walk.proofs.Whole.{fresh, done_or_new, first_found, next_done}
use Rattle.circuit.specs.Circles.{FirstDependent}
use Rattle.order.specs.Cells.{cells_in}
use Rattle.order.proofs.arrange.Goals as goal
use Rattle.order.proofs.arrange.Goals.{in-New+in_ok-follow, in_default}

pub loop-k-init : goal.loop-k-init
loop-k-init c =
    let filled : c.fill.new.self ≡ replicate (length c.args.marks.now) New = c.fill.ensures.after (λ y same. search rules) in
    let size = c.fill.ensures.len ∙ c.requires.marks ∙ sym (cells_size c.args.gates.nets.now c.args.gates.pins.now) in
    (fresh _ _ c.fill.new.self c.requires.empty size (λ k lt. subst (λ z. mark_at z k ≡ New) (sym filled) (get_or-replicate _ k New New (omega (arith, c.fill.ensures.len)))), (λ j lt. absurd (omega arith)), refl)

pub returns-in_err-follow : goal.returns-in_err-follow
returns-in_err-follow c =
    let p = err_from_is_err_and c.from_residual.result c.from_residual.ensures.1 in
    rw (p.1, p.2) (subst (FirstDependent (cells_in c.args.gates)) (sym c.in_err-follow.ensures.walk.0) (first_found _ _ c.loop-k.marks c.loop-k.k c.loop-k.invariant.0 (omega (arith, cells_size c.args.gates.nets.now c.args.gates.pins.now)) c.loop-k.invariant.1 c.in_err-follow.ensures.walk.1))

pub loop-k-preserved : goal.loop-k-preserved
loop-k-preserved c =
    elim c.match-marks-k.branch [
      | in-New+in_ok-follow w ↦ (
          let after = w.in_ok-follow.ensures.walk in
          let more = next_done _ _ (vec_items w.follow.new.order) _ w.follow.new.marks c.loop-k.k (ap vec_items w.order-is) w.marks-is after.0 (λ j less. after.2 j (c.loop-k.invariant.1 j less)) after.1 in
          (more.0, more.1, omega (arith, ap vec_capacity w.order-is, w.in_ok-follow.ensures.capacity, c.loop-k.invariant.2)))
      | in_default w ↦ (
          let done = done_or_new _ _ c.loop-k.marks c.loop-k.k c.loop-k.invariant.0 w.in_default.not-New in
          let more = next_done _ _ _ _ _ c.loop-k.k (ap vec_items w.order-is) w.marks-is c.loop-k.invariant.0 c.loop-k.invariant.1 done in
          (more.0, more.1, omega (arith, ap vec_capacity w.order-is, c.loop-k.invariant.2)))
    ]

pub returns : goal.returns
returns c =
    let sorted = all_done _ _ _ c.loop-k.marks c.loop-k.invariant.0 (λ k lt. c.loop-k.invariant.1 k (omega (arith, c.loop-k.auto.marks, c.fill.ensures.len, c.requires.marks))) in
    (sorted, sorted_free _ _ sorted)
