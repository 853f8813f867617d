-- The places of names in a list of names, and the kinds of words.
use Rattle.std.proofs.Common.{◌≡◌, ℕ, zero, suc, ◌<◌, ◌≤◌, Bool, true, false, cond, List, [], ◌∷◌, length, get_or, sym, refl, ap, ◌∙◌, arith}
use Rattle.std.specs.Str.{bytes_eq}
use Rattle.std.proofs.lemmas.Slice.Eq.{bytes_eq-Decides}
use Rattle.std.proofs.lemmas.Bool.{both_ways}
use Rattle.model.specs.declared.kind.Kind.{Kind}
use Rattle.model.specs.declared.kind.Kind.TheVariants.{And, Nand, Or, Nor, Xor, Xnor, Not, Buff}
use Rattle.model.specs.Kinds.{word}
use Rattle.grammar.specs.Rules.{Among}
use Rattle.elaborate.specs.Elaborate.{place_of, kind_of}
use Rattle.grammar.specs.Proper.{Distinct}

-- a name that stands in the list stands at its place
pub at_place : (ns : List (List ℕ)) (n : List ℕ) → place_of ns n < length ns → get_or ns (place_of ns n) [] ≡ n
at_place [] n h = absurd (omega arith)
at_place (m ∷ ns) n h = at (bytes_eq m n) (bytes_eq-Decides m n).0 h (at_place ns n)
  where
    at : (t : Bool) → (t ≡ true → m ≡ n) → cond t 0 (suc (place_of ns n)) < suc (length ns) → (place_of ns n < length ns → get_or ns (place_of ns n) [] ≡ n) →
        get_or (m ∷ ns) (cond t 0 (suc (place_of ns n))) [] ≡ n
    at true e h more = e refl
    at false e h more = more (omega arith)

-- no place of the name is before it
pub place_first : (ns : List (List ℕ)) (n : List ℕ) (i : ℕ) → i < length ns → get_or ns i [] ≡ n → place_of ns n ≤ i
place_first [] n i h e = absurd (omega arith)
place_first (m ∷ ns) n zero h e = at (bytes_eq m n) ((bytes_eq-Decides m n).1 e)
  where
    at : (t : Bool) → t ≡ true → cond t 0 (suc (place_of ns n)) ≤ 0
    at true f = omega arith
    at false f = let z : ◌≡◌ {A = ℕ} 0 1 = cc in omega arith
place_first (m ∷ ns) n (suc i) h e = at (bytes_eq m n) (place_first ns n i (omega arith) e)
  where
    at : (t : Bool) → place_of ns n ≤ i → cond t 0 (suc (place_of ns n)) ≤ suc i
    at true f = omega arith
    at false f = omega arith

-- the place is below the length exactly for the names of the list
pub place_below : (ns : List (List ℕ)) (n : List ℕ) → Among ns n → place_of ns n < length ns
place_below ns n (i, h, e) = omega (arith, place_first ns n i h e)

pub among_place : (ns : List (List ℕ)) (n : List ℕ) → place_of ns n < length ns → Among ns n
among_place ns n h = (place_of ns n, h, at_place ns n h)

pub among_at_place : (ns : List (List ℕ)) (n : List ℕ) → Among ns n → get_or ns (place_of ns n) [] ≡ n
among_at_place ns n a = at_place ns n (place_below ns n a)

-- where it does not stand, it is the length
pub place_none : (ns : List (List ℕ)) (n : List ℕ) → (Among ns n → ⊥) → place_of ns n ≡ length ns
place_none [] n f = refl
place_none (m ∷ ns) n f = at (bytes_eq m n) (bytes_eq-Decides m n).0 (place_none ns n (λ (i, h, e). f (suc i, omega arith, e)))
  where
    at : (t : Bool) → (t ≡ true → m ≡ n) → place_of ns n ≡ length ns → cond t 0 (suc (place_of ns n)) ≡ suc (length ns)
    at true e g = absurd (f (0, omega arith, e refl))
    at false e g = ap suc g

pub place_unique : (ns : List (List ℕ)) (n : List ℕ) (i : ℕ) → Distinct ns → i < length ns → get_or ns i [] ≡ n → place_of ns n ≡ i
place_unique ns n i d h e =
    let a : Among ns n = (i, h, e) in d (place_of ns n) i (place_below ns n a) h (among_at_place ns n a ∙ sym e)

-- the name at place i has place i, where no name stands twice
pub place_at : (ns : List (List ℕ)) (i : ℕ) → Distinct ns → i < length ns → place_of ns (get_or ns i []) ≡ i
place_at ns i d h = place_unique ns (get_or ns i []) i d h refl

pub kind_word : (k : Kind) → kind_of (word k) ≡ k
unfolding kind_of
kind_word And = refl
kind_word Nand = refl
kind_word Or = refl
kind_word Nor = refl
kind_word Xor = refl
kind_word Xnor = refl
kind_word Not = refl
kind_word Buff = refl

pub word_kind : (w : List ℕ) (k : Kind) → w ≡ word k → word (kind_of w) ≡ w
word_kind w k e = ap (λ (u : List ℕ). word (kind_of u)) e ∙ ap word (kind_word k) ∙ sym e

-- a word that is not unknown is the word of its kind
pub known_kind : (w : List ℕ) → (((k : Kind) → w ≡ word k → ⊥) → ⊥) → w ≡ word (kind_of w)
known_kind w f = at (bytes_eq (word (kind_of w)) w) refl
  where
    at : (t : Bool) → bytes_eq (word (kind_of w)) w ≡ t → w ≡ word (kind_of w)
    at true e = sym ((bytes_eq-Decides (word (kind_of w)) w).0 e)
    at false e = absurd (f (λ k is. both_ways (bytes_eq (word (kind_of w)) w) e ((bytes_eq-Decides (word (kind_of w)) w).1 (word_kind w k is))))
