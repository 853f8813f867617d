-- The laws of an algebra whose lanes are all decided.
use Rattle.std.proofs.Common.{◌≡◌, ℕ, ◌^◌, ◌<◌, Bool, true, false, not, ◌||◌, sym, refl, ap, ◌∙◌, subst, arith}
use mathlib.Core.Bool.{beq}
use Rattle.model.specs.Bits.{bit}
use Rattle.model.specs.Pairs.{Has, every, size, only}
use Rattle.model.specs.Meaning.{Meaning}
use Rattle.model.specs.OperationLaws.{Unary, Binary}
use Rattle.model.specs.WordLaws.{Word}
use Rattle.model.proofs.Finite.{left, right, same}

pub only_size : (p q : Bool) → size (only p q) ≡ 1
only_size true true = refl
only_size true false = refl
only_size false true = refl
only_size false false = refl

only_has : (p q : Bool) → Has (only p q) p q
only_has true true = refl
only_has true false = refl
only_has false true = refl
only_has false false = refl

not_not : (b : Bool) → not (not b) ≡ b
not_not true = refl
not_not false = refl

or_false : (b : Bool) → (b || false) ≡ b
or_false true = refl
or_false false = refl

only_every : (t : Bool → Bool → Bool) (p q : Bool) → every t (only p q) ≡ t p q
only_every t true true = simp (or_false, not_not)
only_every t true false = simp (or_false, not_not)
only_every t false true = simp (or_false, not_not)
only_every t false false = not_not (t false false)

-- a pair of the set is its pair
first : (p q g f : Bool) → Has (only p q) g f → g ≡ p
first p q g f h = same g p (left _ _ h)

second : (p q g f : Bool) → Has (only p q) g f → f ≡ q
second p q g f h = same f q (right (beq g p) _ h)

has : (p q g f : Bool) → p ≡ g → q ≡ f → Has (only p q) g f
has p q g f d e = subst (λ x. Has (only x q) g f) (sym d) (subst (λ y. Has (only g y) g f) (sym e) (only_has g f))

-- n lanes, with what each circuit carries in them
module _ {V : Type 0} (n : ℕ) (good faulty : V → ℕ → Bool) where
  abbrev pub decided : Meaning V
  decided = record { lanes = n; pairs = λ v i. only (good v i) (faulty v i) }

  pub nonempty : (v : V) (i : ℕ) → 0 < size (decided.pairs v i)
  nonempty v i = omega (arith, only_size (good v i) (faulty v i))

  pub unary : (h k : Bool → Bool) (op : V → V)
      → ((v : V) (i : ℕ) → i < n → good (op v) i ≡ h (good v i))
      → ((v : V) (i : ℕ) → i < n → faulty (op v) i ≡ k (faulty v i))
      → Unary decided h k op
  unary h k op g-is f-is = record {
    contains = λ v i l g f x.
        has _ _ (h g) (k f) (g-is v i l ∙ ap h (sym (first _ _ g f x))) (f-is v i l ∙ ap k (sym (second _ _ g f x)));
    exact = λ v i l e. only_size (good (op v) i) (faulty (op v) i);
  }

  pub binary : (h : Bool → Bool → Bool) (op : V → V → V)
      → ((u v : V) (i : ℕ) → good (op u v) i ≡ h (good u i) (good v i))
      → ((u v : V) (i : ℕ) → faulty (op u v) i ≡ h (faulty u i) (faulty v i))
      → Binary decided h op
  binary h op g-is f-is = record {
    contains = λ u v i l g f g' f' x y.
        has _ _ (h g g') (h f f')
        (g-is u v i ∙ ap (λ a. h a (good v i)) (sym (first _ _ g f x)) ∙ ap (h g) (sym (first _ _ g' f' y)))
        (f-is u v i ∙ ap (λ a. h a (faulty v i)) (sym (second _ _ g f x)) ∙ ap (h f) (sym (second _ _ g' f' y)));
    exact = λ u v i l d e. only_size (good (op u v) i) (faulty (op u v) i);
  }

  pub word : (test : Bool → Bool → Bool) (w : V → ℕ)
      → ((v : V) (i : ℕ) → i < n → bit (w v) i ≡ test (good v i) (faulty v i))
      → ((v : V) → w v < 2 ^ n)
      → Word decided test w
  word test w is few = record { lane = λ v i l. is v i l ∙ sym (only_every test (good v i) (faulty v i)); beyond = few }
