use Rattle.std.proofs.Common.{length}
use Rattle.bench_tests.proofs.written.push_meant.Given as goal

abbrev pub decreases-loop-byte : goal.decreases-loop-byte
decreases-loop-byte l = length l.rest
