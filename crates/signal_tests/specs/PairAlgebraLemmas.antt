-- All four pairs of bits are all the values: what the proofs of the laws in src/pair.rt run. No contract cites it.
use Rattle.model.proofs.Finite.{Finite, bits2, at_bits2}
use Rattle.signal_tests.specs.Pair.{pair}
use Rattle.signal_tests.specs.declared.pair.Pair.{Pair}

abbrev pub finite : Finite Pair
finite = record { all = λ p. bits2 (λ g f. p (pair g f)); at = λ p e v. at_bits2 (λ g f. p (pair g f)) e v.good v.faulty }
