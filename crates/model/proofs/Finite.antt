-- Tests at every bit, at every number below a bound and at every value of a finite type: antt computes them.
use Rattle.std.proofs.Common.{◌≡◌, ℕ, zero, suc, ◌<◌, Bool, true, false, ◌&&◌, sym, refl, le_of_suc-le-suc, not-suc-le-zero}
use mathlib.Core.Bool.{beq}

pub left : (a b : Bool) → (a && b) ≡ true → a ≡ true
left true b e = refl
left false b e = e

pub right : (a b : Bool) → (a && b) ≡ true → b ≡ true
right true b e = e
right false b e = elim b as (λ v. v ≡ true) [ true ↦ refl | false ↦ e ]

abbrev pub implies : Bool → Bool → Bool
implies true b = b
implies false b = true

pub implied : (a b : Bool) → implies a b ≡ true → a ≡ true → b ≡ true
implied true b e h = e
implied false b e h = elim b as (λ v. v ≡ true) [ true ↦ refl | false ↦ h ]

pub same : (a b : Bool) → beq a b ≡ true → a ≡ b
same true true e = refl
same true false e = sym e
same false true e = e
same false false e = refl

-- the test passes at both bits
abbrev pub bits : (Bool → Bool) → Bool
bits p = p true && p false

pub at_bit : (p : Bool → Bool) → bits p ≡ true → (b : Bool) → p b ≡ true
at_bit p e true = left (p true) (p false) e
at_bit p e false = right (p true) (p false) e

-- the test passes at all choices of two bits, of three and of four
abbrev pub bits2 : (Bool → Bool → Bool) → Bool
bits2 p = bits (λ a. bits (p a))

pub at_bits2 : (p : Bool → Bool → Bool) → bits2 p ≡ true → (a b : Bool) → p a b ≡ true
at_bits2 p e a b = at_bit (p a) (at_bit (λ x. bits (p x)) e a) b

abbrev pub bits3 : (Bool → Bool → Bool → Bool) → Bool
bits3 p = bits (λ a. bits2 (p a))

pub at_bits3 : (p : Bool → Bool → Bool → Bool) → bits3 p ≡ true → (a b c : Bool) → p a b c ≡ true
at_bits3 p e a = at_bits2 (p a) (at_bit (λ x. bits2 (p x)) e a)

abbrev pub bits4 : (Bool → Bool → Bool → Bool → Bool) → Bool
bits4 p = bits2 (λ a b. bits2 (p a b))

pub at_bits4 : (p : Bool → Bool → Bool → Bool → Bool) → bits4 p ≡ true → (a b c d : Bool) → p a b c d ≡ true
at_bits4 p e a b = at_bits2 (p a b) (at_bits2 (λ x y. bits2 (p x y)) e a b)

-- the test passes at every number below n
abbrev pub below : ℕ → (ℕ → Bool) → Bool
below zero p = true
below (suc n) p = p 0 && below n (λ k. p (suc k))

pub at_number : (n : ℕ) (p : ℕ → Bool) → below n p ≡ true → (k : ℕ) → k < n → p k ≡ true
at_number zero p e k h = absurd (not-suc-le-zero h)
at_number (suc n) p e zero h = left (p 0) _ e
at_number (suc n) p e (suc k) h = at_number n (λ k. p (suc k)) (right (p 0) _ e) k (le_of_suc-le-suc h)

-- a type with a test at all of its values
pub record Finite (V : Type 0) : Type 0 where
  pub all : (V → Bool) → Bool
  pub at : (p : V → Bool) → all p ≡ true → (v : V) → p v ≡ true
