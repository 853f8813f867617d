-- The bits of words of 64 bits.
use Rattle.std.proofs.Common.{◌≡◌, ℕ, zero, suc, ◌-◌, ◌/◌, ◌%◌, ◌^◌, ◌<◌, Bool, true, false, not, ◌&&◌, ◌||◌, eqb, sym, refl, ap, ◌∙◌, le_of_suc-le-suc, not-suc-le-zero, arith}
use lib.Bits.{bit_and, bit_or, bit_xor, and_shr, or_shr, xor_shr, and_mod, or_mod, xor_mod, and_mask, xor_add_and}
use Rattle.std.proofs.lemmas.Nat.{mod_below}
use Rattle.model.specs.Bits.{bit, differ}
use Rattle.model.proofs.Finite.{at_number}

-- an operation that goes bit by bit
module _ (op : ℕ → ℕ → ℕ) (h : Bool → Bool → Bool)
    (shr : (a b k : ℕ) → op a b / 2 ^ k ≡ op (a / 2 ^ k) (b / 2 ^ k))
    (rem : (a b k : ℕ) → op a b % 2 ^ k ≡ op (a % 2 ^ k) (b % 2 ^ k))
    (at : (p q : ℕ) → p < 2 → q < 2 → eqb (op p q) 1 ≡ h (eqb p 1) (eqb q 1)) where
  bit_op : (a b i : ℕ) → bit (op a b) i ≡ h (bit a i) (bit b i)
  bit_op a b i =
      ap (λ n. eqb (n % 2) 1) (shr a b i) ∙ ap (λ n. eqb n 1) (rem (a / 2 ^ i) (b / 2 ^ i) 1)
      ∙ at (a / 2 ^ i % 2) (b / 2 ^ i % 2) (mod_below (a / 2 ^ i) 2 (omega arith)) (mod_below (b / 2 ^ i) 2 (omega arith))

two : (P : ℕ → Type 0) → P 0 → P 1 → (n : ℕ) → n < 2 → P n
two P a b zero h = a
two P a b (suc zero) h = b
two P a b (suc (suc n)) h = absurd (not-suc-le-zero (le_of_suc-le-suc (le_of_suc-le-suc h)))

two_two : (P : ℕ → ℕ → Type 0) → P 0 0 → P 0 1 → P 1 0 → P 1 1 → (m n : ℕ) → m < 2 → n < 2 → P m n
two_two P a b c d m n hm hn = two (λ m. P m n) (two (P 0) a b n hn) (two (P 1) c d n hn) m hm

pub bit-bit_and : (a b i : ℕ) → bit (bit_and a b) i ≡ (bit a i && bit b i)
bit-bit_and = bit_op bit_and ◌&&◌ and_shr and_mod (two_two (λ p q. eqb (bit_and p q) 1 ≡ (eqb p 1 && eqb q 1)) refl refl refl refl)

pub bit-bit_or : (a b i : ℕ) → bit (bit_or a b) i ≡ (bit a i || bit b i)
bit-bit_or = bit_op bit_or ◌||◌ or_shr or_mod (two_two (λ p q. eqb (bit_or p q) 1 ≡ (eqb p 1 || eqb q 1)) refl refl refl refl)

pub bit-bit_xor : (a b i : ℕ) → bit (bit_xor a b) i ≡ differ (bit a i) (bit b i)
bit-bit_xor = bit_op bit_xor differ xor_shr xor_mod (two_two (λ p q. eqb (bit_xor p q) 1 ≡ differ (eqb p 1) (eqb q 1)) refl refl refl refl)

pub bit_ones : (i : ℕ) → i < 64 → bit (2 ^ 64 - 1) i ≡ true
bit_ones = at_number 64 (bit (2 ^ 64 - 1)) refl

pub bit_zero : (i : ℕ) → i < 64 → bit 0 i ≡ false
bit_zero i h = not_true (bit 0 i) (at_number 64 (λ i. not (bit 0 i)) refl i h)
  where
    not_true : (b : Bool) → not b ≡ true → b ≡ false
    not_true true e = sym e
    not_true false e = refl

and_true : (a b : Bool) → b ≡ true → (a && b) ≡ a
and_true true b e = e
and_true false b e = refl

pub bit_low : (w i : ℕ) → i < 64 → bit (w % 2 ^ 64) i ≡ bit w i
bit_low w i h = ap (λ n. bit n i) (sym (and_mask w 64)) ∙ bit-bit_and w (2 ^ 64 - 1) i ∙ and_true (bit w i) _ (bit_ones i h)

differ_true : (a b : Bool) → b ≡ true → differ a b ≡ not a
differ_true true b e = ap not e
differ_true false b e = e

flip_xor : (w : ℕ) → 2 ^ 64 - 1 - w % 2 ^ 64 ≡ bit_xor (w % 2 ^ 64) (2 ^ 64 - 1)
flip_xor w =
    let l = mod_below w (2 ^ 64) (omega arith) in
    let a = and_mask (w % 2 ^ 64) 64 in
    omega (arith, xor_add_and (w % 2 ^ 64) (2 ^ 64 - 1), a, l)

pub bit_flip : (w i : ℕ) → i < 64 → bit (2 ^ 64 - 1 - w % 2 ^ 64) i ≡ not (bit w i)
bit_flip w i h =
    ap (λ n. bit n i) (flip_xor w) ∙ bit-bit_xor (w % 2 ^ 64) (2 ^ 64 - 1) i
    ∙ differ_true _ _ (bit_ones i h) ∙ ap not (bit_low w i h)
