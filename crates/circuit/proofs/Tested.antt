-- `Tests` and `tests` say the same.
use Rattle.std.proofs.Common.{◌≡◌, ℕ, zero, suc, ◌<◌, Bool, true, false, ◌⊎◌, List, [], ◌∷◌, length, get_or, sym, refl, subst, inl, inr, arith}
use Rattle.std.proofs.lemmas.Bool.{false≢true, or_cases, or_left, or_right}
use Rattle.model.specs.Bits.{differ}
use Rattle.circuit.specs.Circuit.{Netlist, Fault, Tests, tests, differ_in, good, faulty}

differ_apart : (a b : Bool) → differ a b ≡ true → a ≡ b → ⊥
differ_apart true true h e = false≢true h
differ_apart true false h e = false≢true (sym e)
differ_apart false true h e = false≢true e
differ_apart false false h e = false≢true h

apart_differ : (a b : Bool) → (a ≡ b → ⊥) → differ a b ≡ true
apart_differ true true ne = absurd (ne refl)
apart_differ true false ne = refl
apart_differ false true ne = refl
apart_differ false false ne = absurd (ne refl)

module _ (c : Netlist) (φ : Fault) (v : ℕ) where
  differ_some : (ks : List ℕ) → differ_in c φ v ks ≡ true → (o : ℕ) × (o < length ks) × (good c v (get_or ks o 0) ≡ faulty c φ v (get_or ks o 0) → ⊥)
  differ_some [] h = absurd (false≢true h)
  differ_some (k ∷ ks) h = at (or_cases (differ (good c v k) (faulty c φ v k)) (differ_in c φ v ks) h) (differ_some ks)
    where
      at : (differ (good c v k) (faulty c φ v k) ≡ true) ⊎ (differ_in c φ v ks ≡ true) →
          (differ_in c φ v ks ≡ true → (o : ℕ) × (o < length ks) × (good c v (get_or ks o 0) ≡ faulty c φ v (get_or ks o 0) → ⊥)) →
          (o : ℕ) × (o < length (k ∷ ks)) × (good c v (get_or (k ∷ ks) o 0) ≡ faulty c φ v (get_or (k ∷ ks) o 0) → ⊥)
      at (inl x) more = (0, omega arith, differ_apart _ _ x)
      at (inr x) more = let (o, within, apart) = more x in (suc o, omega arith, apart)

  some_differ : (ks : List ℕ) (o : ℕ) → o < length ks → (good c v (get_or ks o 0) ≡ faulty c φ v (get_or ks o 0) → ⊥) → differ_in c φ v ks ≡ true
  some_differ [] o within apart = absurd (omega arith)
  some_differ (k ∷ ks) zero within apart = or_left _ _ (apart_differ _ _ apart)
  some_differ (k ∷ ks) (suc o) within apart = or_right (differ (good c v k) (faulty c φ v k)) _ (some_differ ks o (omega arith) apart)

  pub tests-Tests : tests c φ v ≡ true → Tests c φ v
  unfolding tests
  tests-Tests h = let (o, within, apart) = differ_some c.outputs h in (_, (o, within, refl), apart)

  pub Tests-tests : Tests c φ v → tests c φ v ≡ true
  unfolding tests
  Tests-tests (k, (o, within, is), apart) = some_differ c.outputs o within (subst (λ z. good c v z ≡ faulty c φ v z → ⊥) (sym is) apart)
