-- The laws of an algebra of one lane, from tests over all of its values.
use Rattle.std.proofs.Common.{◌≡◌, ℕ, ◌^◌, ◌<◌, Bool, true, false, cond, not, ◌&&◌, ◌||◌, eqb, ltb, refl, ap, ◌∙◌, subst, arith, lit<, lit≤}
use mathlib.Core.Bool.{beq}
use Rattle.std.proofs.lemmas.Bool.{ltb-true, eqb-true, eq-eqb}
use Rattle.model.specs.Bits.{bit, differ}
use Rattle.model.specs.Pairs.{Pairs, every, size, only}
use Rattle.model.specs.Operations.{Ops}
use Rattle.model.specs.OperationLaws.{OperationLaws, Unary, Binary}
use Rattle.model.specs.WordLaws.{WordLaws, Word}
use Rattle.model.specs.SearchLaws.{SearchLaws}
use Rattle.model.specs.OneLane.{one_lane, one_lane_words, one_lane_search}
use Rattle.model.proofs.Finite.{left, right, bits, at_bit, bits2, at_bits2, bits3, at_bits3, bits4, at_bits4, implies, implied, same, Finite}

lane_zero : (P : ℕ → Type 0) → P 0 → (i : ℕ) → i < 1 → P i
lane_zero P p i h = let e : 0 ≡ i = omega arith in subst P e p

bit_of : (b : Bool) → bit (cond b 1 0) 0 ≡ b
bit_of true = refl
bit_of false = refl

word_below : (b : Bool) → cond b 1 0 < 2 ^ 1
word_below true = lit< tt
word_below false = lit< tt

module _ {V : Type 0} (pairs : V → Pairs) where
  word : (p : Bool → Bool → Bool) → Word (one_lane pairs) p (λ v. cond (every p (pairs v)) 1 0)
  word p = record {
    lane = λ v. lane_zero (λ i. bit (cond (every p (pairs v)) 1 0) i ≡ every p (pairs v)) (bit_of (every p (pairs v)));
    beyond = λ v. word_below (every p (pairs v));
  }

  pub word_laws : WordLaws (one_lane pairs) (one_lane_words pairs)
  word_laws = record { difference = word differ; good = word (λ x _. x) }

  pub search_laws : (u : V) → bits2 (pairs u) ≡ true → SearchLaws (one_lane pairs) (one_lane_search pairs u)
  search_laws u t = record { unknown = at_bits2 (pairs u) t; decided = λ v. refl; may_differ = λ v. refl }

module _ {V : Type 0} (fin : Finite V) (pairs : V → Pairs) where
  -- the laws at one choice of values and bits
  abbrev contains1 : (Bool → Bool) → (Bool → Bool) → (V → V) → V → Bool → Bool → Bool
  contains1 h k op v a b = implies (pairs v a b) (pairs (op v) (h a) (k b))

  abbrev contains2 : (Bool → Bool → Bool) → (V → V → V) → V → V → Bool → Bool → Bool → Bool → Bool
  contains2 h op u v a b c d = implies (pairs u a b) (implies (pairs v c d) (pairs (op u v) (h a c) (h b d)))

  abbrev decided : V → Bool
  decided v = eqb (size (pairs v)) 1

  abbrev exact1 : (V → V) → V → Bool
  exact1 op v = implies (decided v) (decided (op v))

  abbrev exact2 : (V → V → V) → V → V → Bool
  exact2 op u v = implies (decided u) (implies (decided v) (decided (op u v)))

  -- and at all choices
  abbrev unary_test : (Bool → Bool) → (Bool → Bool) → (V → V) → Bool
  unary_test h k op = fin.all (λ v. bits2 (contains1 h k op v)) && fin.all (exact1 op)

  abbrev binary_test : (Bool → Bool → Bool) → (V → V → V) → Bool
  binary_test h op = fin.all (λ u. fin.all (λ v. bits4 (contains2 h op u v))) && fin.all (λ u. fin.all (exact2 op u))

  abbrev load_test : (Bool → V) → Bool → Bool → Bool → Bool
  load_test constant b x y = beq (pairs (constant b) x y) (only b b x y)

  unary : (h k : Bool → Bool) (op : V → V) → unary_test h k op ≡ true → Unary (one_lane pairs) h k op
  unary h k op t = record {
    contains = λ v i _ a b.
        implied _ _ (at_bits2 (contains1 h k op v) (fin.at (λ v. bits2 (contains1 h k op v)) (left _ _ t) v) a b);
    exact = λ v i _ e. eqb-true _ _ (implied _ _ (fin.at (exact1 op) (right _ _ t) v) (eq-eqb _ _ e));
  }

  binary : (h : Bool → Bool → Bool) (op : V → V → V) → binary_test h op ≡ true → Binary (one_lane pairs) h op
  binary h op t = record {
    contains = λ u v i _ a b c d x y.
        implied _ _
        (implied _ _
        (at_bits4 (contains2 h op u v) (fin.at (λ v. bits4 (contains2 h op u v)) (fin.at (λ u. fin.all (λ v. bits4 (contains2 h op u v))) (left _ _ t) u) v) a b c d) x) y;
    exact = λ u v i _ d e.
        eqb-true _ _
        (implied _ _
        (implied _ _ (fin.at (exact2 op u) (fin.at (λ u. fin.all (exact2 op u)) (right _ _ t) u) v) (eq-eqb _ _ d)) (eq-eqb _ _ e));
  }

  -- what the operations have to pass, where load makes a constant of bit 0
  pub record Passes (constant : Bool → V) (o : Ops V) : Type 0 where
    pub nonempty : fin.all (λ v. ltb 0 (size (pairs v))) ≡ true
    pub loads : (w : ℕ) → o.load w ≡ constant (bit w 0)
    pub load : bits3 (load_test constant) ≡ true
    pub inv : unary_test not not o.inv ≡ true
    pub and : binary_test ◌&&◌ o.and ≡ true
    pub or : binary_test ◌||◌ o.or ≡ true
    pub xor : binary_test differ o.xor ≡ true
    pub stuck : bits (λ b. unary_test (λ x. x) (λ _. b) (o.stuck b)) ≡ true

  pub operation_laws : (constant : Bool → V) (o : Ops V) → Passes constant o → OperationLaws (one_lane pairs) o
  operation_laws constant o t = record {
    some_lane = lit< tt;
    few_lanes = lit≤ tt;
    nonempty = λ v i _. ltb-true _ _ (fin.at (λ v. ltb 0 (size (pairs v))) t.nonempty v);
    load = λ w i h x y.
        lane_zero (λ i. pairs (o.load w) x y ≡ only (bit w i) (bit w i) x y)
        (ap (λ v. pairs v x y) (t.loads w) ∙ same _ _ (at_bits3 (load_test constant) t.load (bit w 0) x y)) i h;
    inv = unary not not o.inv t.inv;
    and = binary ◌&&◌ o.and t.and;
    or = binary ◌||◌ o.or t.or;
    xor = binary differ o.xor t.xor;
    stuck = λ b. unary (λ x. x) (λ _. b) (o.stuck b) (at_bit (λ b. unary_test (λ x. x) (λ _. b) (o.stuck b)) t.stuck b);
  }
