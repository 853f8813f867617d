use Rattle.std.proofs.Common.{◌≡◌, length, vec_items}
use Rattle.bench_tests.proofs.told.tell_behind.Given as goal

-- the text is as it was
abbrev pub invariant-loop-label : goal.invariant-loop-label
invariant-loop-label l = (vec_items l.text ≡ vec_items l.initial.text) × (l.length ≡ length (vec_items l.initial.text))
