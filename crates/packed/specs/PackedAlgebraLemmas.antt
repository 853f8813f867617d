-- The proofs of the laws of packed values, lane by lane. No contract cites them.
use Rattle.std.specs.Prelude.{◌≡◌, ℕ, ◌-◌, ◌^◌, ◌<◌, Bool, true, false, cond, not, ◌&&◌, ◌||◌, bit_xor, refl}
use Rattle.std.proofs.Common.{◌∙◌, lit<, lit≤}
use Rattle.std.proofs.lemmas.Nat.{mod_below}
use Rattle.model.specs.Bits.{bit, differ}
use Rattle.model.specs.OperationLaws.{OperationLaws}
use Rattle.model.specs.WordLaws.{WordLaws}
use Rattle.model.proofs.Words.{bit-bit_and, bit-bit_or, bit-bit_xor, bit_ones, bit_zero, bit_low, bit_flip}
use Rattle.model.proofs.DecidedLanes.{nonempty, unary, binary, word}
use Rattle.packed.specs.declared.Packed.{Packed}
use Rattle.packed.specs.Packed.{packed_meaning, packed_ops, packed_words}

abbrev pub good : Packed → ℕ → Bool
good v = bit v.good

abbrev pub faulty : Packed → ℕ → Bool
faulty v = bit v.faulty

pub stuck_bit : (b : Bool) (i : ℕ) → i < 64 → bit (cond b (2 ^ 64 - 1) 0) i ≡ b
stuck_bit true = bit_ones
stuck_bit false = bit_zero

pub packed_operation_laws : OperationLaws packed_meaning packed_ops
packed_operation_laws = record {
  some_lane = lit< tt;
  few_lanes = lit≤ tt;
  nonempty = λ v i l. nonempty 64 good faulty v i;
  load = λ w i l g f. refl;
  inv = unary 64 good faulty not not packed_ops.inv (λ v. bit_flip v.good) (λ v. bit_flip v.faulty);
  and = binary 64 good faulty ◌&&◌ packed_ops.and (λ u v. bit-bit_and u.good v.good) (λ u v. bit-bit_and u.faulty v.faulty);
  or = binary 64 good faulty ◌||◌ packed_ops.or (λ u v. bit-bit_or u.good v.good) (λ u v. bit-bit_or u.faulty v.faulty);
  xor = binary 64 good faulty differ packed_ops.xor (λ u v. bit-bit_xor u.good v.good) (λ u v. bit-bit_xor u.faulty v.faulty);
  stuck = λ b. unary 64 good faulty (λ g. g) (λ _. b) (packed_ops.stuck b) (λ v i l. refl) (λ v. stuck_bit b);
}

pub packed_word_laws : WordLaws packed_meaning packed_words
packed_word_laws = record {
  difference = word 64 good faulty differ packed_words.difference
      (λ v i l. bit_low (bit_xor v.good v.faulty) i l ∙ bit-bit_xor v.good v.faulty i)
      (λ v. mod_below _ (2 ^ 64) (lit< tt));
  good = word 64 good faulty (λ g _. g) packed_words.good (λ v. bit_low v.good) (λ v. mod_below _ (2 ^ 64) (lit< tt));
}
