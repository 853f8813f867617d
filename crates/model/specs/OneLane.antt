-- Algebras of one lane: what their values mean fixes what is read of them.
use Rattle.std.specs.Prelude.{cond, ◌==◌}
use Rattle.model.specs.Bits.{differ}
use Rattle.model.specs.Pairs.{Pairs, every, some, size}
use Rattle.model.specs.Meaning.{Meaning}
use Rattle.model.specs.WordLaws.{Words}
use Rattle.model.specs.SearchLaws.{Search}

module _ {V : Type 0} (pairs : V → Pairs) where
  abbrev pub one_lane : Meaning V
  one_lane = record { lanes = 1; pairs = λ v _. pairs v }

  abbrev pub one_lane_words : Words V
  one_lane_words = record {
    difference = λ v. cond (every differ (pairs v)) 1 0;
    good = λ v. cond (every (λ g _. g) (pairs v)) 1 0;
  }

  abbrev pub one_lane_search : V → Search V
  one_lane_search unknown = record {
    unknown = unknown;
    decided = λ v. (size (pairs v) == 1);
    may_differ = λ v. some differ (pairs v);
  }
