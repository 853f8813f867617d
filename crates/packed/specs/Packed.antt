-- Packed values: two words whose low 64 bits are what the good and the faulty circuit carry in 64 lanes.
use Rattle.std.specs.Prelude.{ℕ, ◌-◌, ◌%◌, ◌^◌, cond, bit_and, bit_or, bit_xor}
use Rattle.model.specs.Bits.{bit}
use Rattle.model.specs.Pairs.{only}
use Rattle.model.specs.Operations.{Ops}
use Rattle.model.specs.Meaning.{Meaning}
use Rattle.model.specs.WordLaws.{Words}
use Rattle.packed.specs.declared.Packed.{Packed}

abbrev pub packed : ℕ → ℕ → Packed
packed g f = record { good = g; faulty = f }

abbrev pub flipped : ℕ → ℕ
flipped w = 2 ^ 64 - 1 - w % 2 ^ 64

-- an operation on words, for either circuit
abbrev pub circuits : (ℕ → ℕ → ℕ) → Packed → Packed → Packed
circuits h u v = packed (h u.good v.good) (h u.faulty v.faulty)

abbrev pub packed_meaning : Meaning Packed
packed_meaning = record { lanes = 64; pairs = λ v i. only (bit v.good i) (bit v.faulty i) }

abbrev pub packed_ops : Ops Packed
packed_ops = record {
  load = λ w. packed w w;
  inv = λ v. packed (flipped v.good) (flipped v.faulty);
  and = circuits bit_and;
  or = circuits bit_or;
  xor = circuits bit_xor;
  stuck = λ b v. packed v.good (cond b (2 ^ 64 - 1) 0);
}

abbrev pub packed_words : Words Packed
packed_words = record { difference = λ v. bit_xor v.good v.faulty % 2 ^ 64; good = λ v. v.good % 2 ^ 64 }
