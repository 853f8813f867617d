use Rattle.std.proofs.Common.{◌≡◌, ◌<◌, ◌^◌, drop}
use Rattle.names.specs.Buckets.{hash_from}
use Rattle.names.proofs.table.bucket_of.Given as goal

abbrev pub invariant-loop-b : goal.invariant-loop-b
invariant-loop-b l = (l.h < 2 ^ 32) × (hash_from l.h (drop l.b-index l.bytes) ≡ hash_from 0 l.bytes)
