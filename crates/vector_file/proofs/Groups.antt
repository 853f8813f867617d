-- The bytes of a number, one group at a time.
use Rattle.std.proofs.Common.{◌≡◌, ℕ, zero, suc, ◌+◌, ◌/◌, ◌%◌, ◌^◌, ◌<◌, ◌≤◌, [], ◌∷◌, length, sym, refl, ap, ◌∙◌, ⊎_elim, arith, le-ltb, lt-ltb}
use Rattle.std.proofs.lemmas.Bool.{cases_lt}
use Rattle.vector_file.specs.Numbers.{groups, number_bytes}

groups_small : (k n : ℕ) → n < 128 → groups k n ≡ n ∷ []
groups_small zero n h = refl
groups_small (suc k) n h = rw (lt-ltb n 128 h)

groups_large : (k n : ℕ) → 128 ≤ n → groups (suc k) n ≡ (n % 128 + 128) ∷ groups k (n / 128)
groups_large k n h = rw (le-ltb n 128 h)

-- the bound does not matter once it is large enough
groups_enough : (k j n : ℕ) → n ≤ k → n ≤ j → groups k n ≡ groups j n
groups_enough zero j n h i = sym (groups_small j n (omega arith))
groups_enough (suc k) zero n h i = groups_small (suc k) n (omega arith)
groups_enough (suc k) (suc j) n h i =
    ⊎_elim
    (λ lt. groups_small (suc k) n lt ∙ sym (groups_small (suc j) n lt))
    (λ le. groups_large k n le ∙ ap (λ xs. (n % 128 + 128) ∷ xs) (groups_enough k j (n / 128) (omega arith) (omega arith)) ∙ sym (groups_large j n le))
    (cases_lt n 128)

pub bytes_small : (n : ℕ) → n < 128 → number_bytes n ≡ n ∷ []
unfolding number_bytes
bytes_small n h = groups_small n n h

pub bytes_more : (n : ℕ) → 128 ≤ n → number_bytes n ≡ (n % 128 + 128) ∷ number_bytes (n / 128)
unfolding number_bytes
bytes_more n h = groups_enough n (suc n) n (omega arith) (omega arith) ∙ groups_large n n h ∙ ap (λ xs. (n % 128 + 128) ∷ xs) (groups_enough n (n / 128) (n / 128) (omega arith) (omega arith))

pub length-small : (n : ℕ) → n < 128 → length (number_bytes n) ≡ 1
length-small n h = ap length (bytes_small n h)

pub length_more : (n : ℕ) → 128 ≤ n → length (number_bytes n) ≡ 1 + length (number_bytes (n / 128))
length_more n h = ap length (bytes_more n h) ∙ omega arith

pub some_byte : (n : ℕ) → 0 < length (number_bytes n)
some_byte n = ⊎_elim (λ s. omega (arith, length-small n s)) (λ l. omega (arith, length_more n l)) (cases_lt n 128)

length-below : (k n : ℕ) → n < 128 ^ suc k → length (number_bytes n) ≤ suc k
length-below zero n h = omega (arith, length-small n h)
length-below (suc k) n h =
    ⊎_elim
    (λ lt. omega (arith, length-small n lt))
    (λ le. omega (arith, length_more n le, length-below k (n / 128) (omega (arith, h))))
    (cases_lt n 128)

-- a word has at most ten groups
pub word_length : (n : ℕ) → n < 2 ^ 64 → length (number_bytes n) ≤ 10
word_length n h = length-below 9 n (omega arith)
