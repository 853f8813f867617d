-- One decided lane: what each circuit carries.
use Rattle.std.specs.Prelude.{Bool, not, ◌&&◌, ◌||◌}
use Rattle.model.specs.Bits.{bit, differ}
use Rattle.model.specs.Pairs.{Pairs, only}
use Rattle.model.specs.Operations.{Ops}
use Rattle.model.specs.Meaning.{Meaning}
use Rattle.model.specs.WordLaws.{Words}
use Rattle.model.specs.OneLane.{one_lane, one_lane_words}
use Rattle.signal_tests.specs.declared.pair.Pair.{Pair}

abbrev pub pair : Bool → Bool → Pair
pair g f = record { good = g; faulty = f }

abbrev pub one_pair : Pair → Pairs
one_pair v = only v.good v.faulty

abbrev pub circuits : (Bool → Bool → Bool) → Pair → Pair → Pair
circuits h u v = pair (h u.good v.good) (h u.faulty v.faulty)

abbrev pub pair_meaning : Meaning Pair
pair_meaning = one_lane one_pair

abbrev pub pair_ops : Ops Pair
pair_ops = record {
  load = λ w. pair (bit w 0) (bit w 0);
  inv = λ v. pair (not v.good) (not v.faulty);
  and = circuits ◌&&◌;
  or = circuits ◌||◌;
  xor = circuits differ;
  stuck = λ b v. pair v.good b;
}

abbrev pub pair_words : Words Pair
pair_words = one_lane_words one_pair
