use Rattle.std.proofs.Common.{◌-◌, [], get_or, arith}
use Rattle.std.proofs.lemmas.Bool.{both_ways}
use Rattle.names.specs.Buckets.{bucket}
use Rattle.names.specs.Tables.{held}
use Rattle.names.proofs.Chains.{last_le, walk_starts, walk_on}
use Rattle.names.proofs.table.Names.find.Goals as goal

pub loop-at-init : goal.loop-at-init
loop-at-init c =
    walk_starts (held c.args.self.now) c.args.bytes.now c.bucket_of.result c.newest_in-at.result c.bucket_of.ensures.value c.newest_in-at.ensures

pub loop-at-smaller : goal.loop-at-smaller
loop-at-smaller c =
    let i = c.from-i.result - 1 in
    omega (arith, c.older_than-at.ensures, last_le (held c.args.self.now) (bucket (get_or (held c.args.self.now) i [])) i, c.from-i.ensures)

pub loop-at-preserved : goal.loop-at-preserved
loop-at-preserved c =
    walk_on (held c.args.self.now) c.args.bytes.now (c.from-i.result - 1) c.loop-at.at c.older_than-at.result (omega arith) (omega (arith, c.from-i.ensures)) c.loop-at.invariant (λ e. both_ways c.is_at.result c.if-is_at.false (c.is_at.ensures.1 e)) c.older_than-at.ensures
