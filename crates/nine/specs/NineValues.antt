-- The nine values by their numbers, and tests at all of them: what the proofs of the laws in src/lib.rt run. No contract
-- cites them.
use Rattle.std.specs.Prelude.{◌≡◌, ℕ, zero, suc, ◌/◌, ◌%◌, ◌<◌, Bool, true, ◌&&◌, refl}
use Rattle.std.proofs.Common.{sym, ap, ◌∙◌, not-suc-le-zero, le_of_suc-le-suc, arith}
use mathlib.Core.HLevel.{is_prop→PathP}
use Rattle.std.proofs.Math.Bridge.{le_prop}
use Rattle.std.proofs.lemmas.Nat.{mod_below, div_below}
use Rattle.model.proofs.Finite.{Finite, left, right}
use Rattle.nine.specs.declared.three.Three.{Three}
use Rattle.nine.specs.declared.three.Three.TheVariants.{Zero, One, X}
use Rattle.nine.specs.declared.Nine.{Nine}
use Rattle.nine.specs.Three.{digit, three}
use Rattle.nine.specs.Nine.{number, value, good_of, faulty_of}

-- two values with one number are one value
pub same_number : (u v : Nine) → u.number ≡ v.number → u ≡ v
same_number u v e = λ i. record { number = e i; nine = is_prop→PathP (λ j. e j < 9) (λ j. le_prop) u.nine v.nine i }

digit_three : (m : ℕ) → m < 3 → digit (three m) ≡ m
digit_three zero h = refl
digit_three (suc zero) h = refl
digit_three (suc (suc zero)) h = refl
digit_three (suc (suc (suc m))) h = absurd (not-suc-le-zero (le_of_suc-le-suc (le_of_suc-le-suc (le_of_suc-le-suc h))))

number_of : (n : ℕ) → n < 9 → number (good_of n) (faulty_of n) ≡ n
number_of n h =
    let g = digit_three (n / 3) (div_below n 3 3 (omega arith) h) in
    let f = digit_three (n % 3) (mod_below n 3 (omega arith)) in
    omega (arith, g, f)

value_of : (v : Nine) → value (good_of v.number) (faulty_of v.number) ≡ v
value_of v = same_number _ v (number_of v.number v.nine)

abbrev pub threes : (Three → Bool) → Bool
threes p = p Zero && (p One && p X)

at_three : (p : Three → Bool) → threes p ≡ true → (t : Three) → p t ≡ true
at_three p e Zero = left _ _ e
at_three p e One = left _ _ (right (p Zero) _ e)
at_three p e X = right (p One) _ (right (p Zero) _ e)

pub at : (p : Nine → Bool) → threes (λ g. threes (λ f. p (value g f))) ≡ true → (v : Nine) → p v ≡ true
at p e v =
    ap p (sym (value_of v))
    ∙ at_three (λ f. p (value (good_of v.number) f)) (at_three (λ g. threes (λ f. p (value g f))) e (good_of v.number)) (faulty_of v.number)

abbrev pub nines : Finite Nine
nines = record { all = λ p. threes (λ g. threes (λ f. p (value g f))); at = at }
