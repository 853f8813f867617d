use Rattle.std.proofs.Common.{◌≡◌, ◌<◌, length, refl, ap, ◌∙◌, arith}
use Rattle.std.proofs.lemmas.List.{length-set}
use Rattle.walk.specs.declared.mark.Mark.TheVariants.{Done}
use Rattle.walk.proofs.Turns.{opens, opening, is_open, is_marked, order_lacks, path_lacks, ends, leaves, looks, passes, deepens, meets}
use Rattle.walk.proofs.Tables.{cells_size}
use Rattle.order.proofs.Path.{lies}
use Rattle.order.proofs.follow.Goals as goal

pub walk-init : goal.walk-init
walk-init c =
    let size : length c.args.marks.now ≡ length c.args.gates.nets.now = c.requires.walk.size ∙ cells_size c.args.gates.nets.now c.args.gates.pins.now in (
      opens c.requires.walk c.requires.new (omega (arith, c.requires.is_net, size)) c.over-path.ensures.0 c.count.ensures.value,
      omega (arith, c.requires.room, ap length c.over-path.ensures.1),
      refl,
      c.requires.is_net,
      length-set c.args.marks.now c.args.start _ ∙ size,
    )

pub left_at-left-requires : goal.left_at-left-requires
left_at-left-requires c = record { net = omega (arith, c.walk.invariant.3, c.walk.invariant.4); opened = is_open c.walk.invariant.0 }

pub push_reserved-requires : goal.push_reserved-requires
push_reserved-requires c = omega (arith, order_lacks c.walk.invariant.0, c.requires.capacity, c.walk.invariant.2, cells_size c.args.gates.nets.now c.args.gates.pins.now)

pub returns-in-None : goal.returns-in-None
returns-in-None c = record {
  walk = ends c.walk.invariant.0 c.left_at-left.ensures (omega arith) c.push_reserved.ensures.items c.args.marks.now c.in-None.ensures.0
      (opening c.args.marks.now c.args.start c.count.result c.requires.new);
  capacity = c.push_reserved.ensures.capacity ∙ c.walk.invariant.2;
}

pub walk-preserved-in-Some : goal.walk-preserved-in-Some
walk-preserved-in-Some c =
    let after = leaves c.walk.invariant.0 c.left_at-left.ensures (omega arith) c.push_reserved.ensures.items c.in-Some.ensures.0 in (
      after,
      omega (arith, c.in-Some.ensures.1, c.walk.invariant.1),
      c.push_reserved.ensures.capacity ∙ c.walk.invariant.2,
      omega (arith, is_marked after, length-set c.walk.marks c.walk.net Done, c.walk.invariant.4),
      length-set c.walk.marks c.walk.net Done ∙ c.walk.invariant.4,
    )

pub operand-read-requires : goal.operand-read-requires
operand-read-requires c = record {
  net = c.walk.invariant.3;
  place = omega (arith, looks c.walk.invariant.0 c.left_at-left.ensures (λ none. omega arith));
}

pub walk-preserved-in-New : goal.walk-preserved-in-New
walk-preserved-in-New c =
    let within : c.operand-read.result < length c.walk.marks = omega (arith, c.operand-read.ensures.net, c.walk.invariant.4) in
    let (pushed, same-room) = lies c.walk.path c.push.new.self c.walk.net c.push.result (omega (arith, path_lacks c.walk.invariant.0 within c.in-New.is, c.walk.invariant.1, cells_size c.args.gates.nets.now c.args.gates.pins.now)) c.push.ensures in (
      deepens c.walk.invariant.0 c.left_at-left.ensures (λ none. omega arith) c.operand-read.ensures.value c.in-New.is within pushed c.count-in-New.ensures.value,
      omega (arith, same-room, c.walk.invariant.1),
      c.walk.invariant.2,
      c.operand-read.ensures.net,
      length-set c.walk.marks c.operand-read.result _ ∙ c.walk.invariant.4,
    )

pub returns-in-Open : goal.returns-in-Open
returns-in-Open c = record {
  walk = (refl, meets c.walk.invariant.0 c.left_at-left.ensures (λ none. omega arith) c.operand-read.ensures.value c.in-Open.is);
  capacity = c.walk.invariant.2;
}

pub walk-preserved : goal.walk-preserved
walk-preserved c = (
  passes c.walk.invariant.0 c.left_at-left.ensures (λ none. omega arith) c.operand-read.ensures.value c.in-Done.is,
  c.walk.invariant.1,
  c.walk.invariant.2,
  c.walk.invariant.3,
  length-set c.walk.marks c.walk.net _ ∙ c.walk.invariant.4,
)
