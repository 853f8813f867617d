-- Roth's five values: a result is the symbol of the one pair that comes out, or X where several do.
use Rattle.std.specs.Prelude.{Bool, true, false, not, ◌&&◌, ◌||◌, cond, eqb}
use Rattle.model.specs.Bits.{bit, differ}
use Rattle.model.specs.Pairs.{Pairs, only, size, image, image2}
use Rattle.model.specs.Operations.{Ops}
use Rattle.model.specs.Meaning.{Meaning}
use Rattle.model.specs.WordLaws.{Words}
use Rattle.model.specs.SearchLaws.{Search}
use Rattle.model.specs.OneLane.{one_lane, one_lane_words, one_lane_search}
use Rattle.five.specs.declared.Five.{Five}
use Rattle.five.specs.declared.Five.TheVariants.{Zero, One, D, E, X}

-- the pairs that a symbol stands for
abbrev pub five_pairs : Five → Pairs
five_pairs Zero = only false false
five_pairs One = only true true
five_pairs D = only true false
five_pairs E = only false true
five_pairs X = λ _ _. true

-- the symbol of a pair
abbrev pub symbol_of : Bool → Bool → Five
symbol_of true true = One
symbol_of true false = D
symbol_of false true = E
symbol_of false false = Zero

-- the symbol of a set: of its one pair, or X
abbrev pub symbol : Pairs → Five
symbol s = cond (eqb (size s) 1) (symbol_of (s true true || s true false) (s true true || s false true)) X

abbrev pub five_constant : Bool → Five
five_constant b = symbol_of b b

abbrev pub five1 : (Bool → Bool) → (Bool → Bool) → Five → Five
five1 h k v = symbol (image h k (five_pairs v))

abbrev pub five2 : (Bool → Bool → Bool) → Five → Five → Five
five2 h u v = symbol (image2 h (five_pairs u) (five_pairs v))

abbrev pub five_meaning : Meaning Five
five_meaning = one_lane five_pairs

abbrev pub five_ops : Ops Five
five_ops = record {
  load = λ w. five_constant (bit w 0);
  inv = five1 not not;
  and = five2 ◌&&◌;
  or = five2 ◌||◌;
  xor = five2 differ;
  stuck = λ b. five1 (λ g. g) (λ _. b);
}

abbrev pub five_words : Words Five
five_words = one_lane_words five_pairs

abbrev pub five_search : Search Five
five_search = one_lane_search five_pairs X
