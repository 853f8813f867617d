-- Muth's nine values: the good and the faulty circuit follow three-valued logic, each on its own.
use Rattle.std.specs.Prelude.{ℕ, ◌+◌, ◌*◌, ◌/◌, ◌%◌, ◌<◌, Bool, ◌&&◌}
use Rattle.std.proofs.Common.{lit<}
use Rattle.model.specs.Bits.{bit}
use Rattle.model.specs.Pairs.{Pairs}
use Rattle.model.specs.Operations.{Ops}
use Rattle.model.specs.Meaning.{Meaning}
use Rattle.model.specs.WordLaws.{Words}
use Rattle.model.specs.SearchLaws.{Search}
use Rattle.model.specs.OneLane.{one_lane, one_lane_words, one_lane_search}
use Rattle.nine.specs.declared.three.Three.{Three}
use Rattle.nine.specs.declared.three.Three.TheVariants.{Zero, One, X}
use Rattle.nine.specs.declared.Nine.{Nine}
use Rattle.nine.specs.declared.table.Operation.{Operation}
use Rattle.nine.specs.declared.table.Operation.TheVariants.{And, Or, Xor}
use Rattle.nine.specs.Three.{digit, three, may, known, not3, and3, or3, xor3}

abbrev pub number : Three → Three → ℕ
number g f = 3 * digit g + digit f

pub number_below : (g f : Three) → number g f < 9
number_below Zero Zero = lit< tt
number_below Zero One = lit< tt
number_below Zero X = lit< tt
number_below One Zero = lit< tt
number_below One One = lit< tt
number_below One X = lit< tt
number_below X Zero = lit< tt
number_below X One = lit< tt
number_below X X = lit< tt

-- the value (g, f), and the two sides of a number
abbrev pub value : Three → Three → Nine
value g f = record { number = number g f; nine = number_below g f }

abbrev pub good_of : ℕ → Three
good_of n = three (n / 3)

abbrev pub faulty_of : ℕ → Three
faulty_of n = three (n % 3)

abbrev pub nine_pairs : Nine → Pairs
nine_pairs v g f = may (good_of v.number) g && may (faulty_of v.number) f

abbrev pub nine_constant : Bool → Nine
nine_constant b = value (known b) (known b)

-- an operation of three-valued logic on either side
abbrev pub sides : (Three → Three → Three) → Nine → Nine → Nine
sides h u v = value (h (good_of u.number) (good_of v.number)) (h (faulty_of u.number) (faulty_of v.number))

-- each operation of the table on one side
abbrev pub gate3 : Operation → Three → Three → Three
gate3 And = and3
gate3 Or = or3
gate3 Xor = xor3

abbrev pub nine_meaning : Meaning Nine
nine_meaning = one_lane nine_pairs

abbrev pub nine_ops : Ops Nine
nine_ops = record {
  load = λ w. nine_constant (bit w 0);
  inv = λ v. value (not3 (good_of v.number)) (not3 (faulty_of v.number));
  and = sides and3;
  or = sides or3;
  xor = sides xor3;
  stuck = λ b v. value (good_of v.number) (known b);
}

abbrev pub nine_words : Words Nine
nine_words = one_lane_words nine_pairs

abbrev pub nine_search : Search Nine
nine_search = one_lane_search nine_pairs (value X X)
