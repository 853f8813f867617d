-- Names resolved one by one.
use Rattle.std.proofs.Common.{◌≡◌, ℕ, zero, suc, List, [], ◌∷◌, ◌++◌, map, Option, Some, None, sym, refl, ap, ◌∙◌, subst, arith}
use Rattle.std.proofs.lemmas.List.{append_assoc}
use Rattle.names.specs.declared.name.Name.{Name}
use Rattle.names.specs.Tables.{LastPlace}
use Rattle.bench.specs.Statements.{names_in}
use Rattle.grammar.specs.Proper.{Distinct}
use Rattle.grammar.specs.Rules.{Among}
use Rattle.elaborate.specs.Elaborate.{place_of}
use Rattle.elaborate.proofs.Places.{place_unique}
use Rattle.netlist.specs.Resolved.{Covered, Uncovered}

pub found_place : (ns : List (List ℕ)) (n : List ℕ) (i : ℕ) → Distinct ns → LastPlace ns n (Some i) → i ≡ place_of ns n
found_place ns n i d h = sym (place_unique ns n i d h.0 h.1)

pub found_among : (ns : List (List ℕ)) (n : List ℕ) (i : ℕ) → LastPlace ns n (Some i) → Among ns n
found_among ns n i h = (i, h.0, h.1)

pub missing : (ns : List (List ℕ)) (n : List ℕ) → LastPlace ns n None → Among ns n → ⊥
missing ns n h a = h a.0 a.1 a.2

covered_cons : (ns os : List (List ℕ)) (n : List ℕ) → Among ns n → Covered ns os → Covered ns (n ∷ os)
covered_cons ns os n a h m (zero, l, e) = let P : List ℕ → Type 0 = λ x. Among ns x in subst P e a
covered_cons ns os n a h m (suc i, l, e) = h m (i, omega arith, e)

uncovered_cons : (ns os : List (List ℕ)) (n : List ℕ) → Uncovered ns os → Uncovered ns (n ∷ os)
uncovered_cons ns os n (m, (i, l, e), f) = (m, (suc i, omega arith, e), f)

-- where all names but the first are covered and the first is too, all are
pub covered_more : (ns os all : List (List ℕ)) (n : List ℕ) → all ≡ n ∷ os → Among ns n → Covered ns os → Covered ns all
covered_more ns os all n e a h = subst (Covered ns) (sym e) (covered_cons ns os n a h)

pub uncovered_more : (ns os all : List (List ℕ)) (n : List ℕ) → all ≡ n ∷ os → Uncovered ns os → Uncovered ns all
uncovered_more ns os all n e h = subst (Uncovered ns) (sym e) (uncovered_cons ns os n h)

pub uncovered_here : (ns os all : List (List ℕ)) (n : List ℕ) → all ≡ n ∷ os → (Among ns n → ⊥) → Uncovered ns all
uncovered_here ns os all n e f = subst (Uncovered ns) (sym e) (n, (0, omega arith, refl), f)

-- one more place behind those that are resolved
pub resolved_more : (f : List ℕ → ℕ) (ps qs : List ℕ) (os all : List (List ℕ)) (n : List ℕ) (i : ℕ) → all ≡ n ∷ os → i ≡ f n → qs ≡ ps ++ i ∷ [] → qs ++ map f os ≡ ps ++ map f all
resolved_more f ps qs os all n i e g h =
    ap (λ (xs : List ℕ). xs ++ map f os) h ∙ append_assoc ps (i ∷ []) (map f os) ∙ ap (λ (x : ℕ). ps ++ x ∷ map f os) g ∙ ap (λ (xs : List (List ℕ)). ps ++ map f xs) (sym e)

pub no_names : (r : Option Name) → ((n : Name) → r ≡ Some n → ⊥) → names_in r ≡ []
no_names None none = refl
no_names (Some n) none = absurd (none n refl)
