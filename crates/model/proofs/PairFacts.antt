-- What a set of pairs says of the pairs in it.
use Rattle.std.proofs.Common.{◌≡◌, Bool, true, false, arith}
use Rattle.model.specs.Pairs.{Pairs, Has, Decided, some, every}

module _ (p : Bool → Bool → Bool) (s : Pairs) where
  -- a pair of the set that passes the test
  pub has_some : (g f : Bool) → Has s g f → p g f ≡ true → some p s ≡ true
  has_some true true h t = grind arith
  has_some true false h t = grind arith
  has_some false true h t = grind arith
  has_some false false h t = grind arith

  -- a pair of a set all of whose pairs pass
  pub every_has : every p s ≡ true → (g f : Bool) → Has s g f → p g f ≡ true
  every_has e true true h = grind arith
  every_has e true false h = grind arith
  every_has e false true h = grind arith
  every_has e false false h = grind arith

  -- a pair of a set none of whose pairs passes
  pub none_has : some p s ≡ false → (g f : Bool) → Has s g f → p g f ≡ false
  none_has e true true h = grind arith
  none_has e true false h = grind arith
  none_has e false true h = grind arith
  none_has e false false h = grind arith

  pub has_every : ((g f : Bool) → Has s g f → p g f ≡ true) → every p s ≡ true
  has_every h =
      let a = h true true in
      let b = h true false in
      let c = h false true in
      let d = h false false in
      grind arith

-- a decided set has one pair
pub one_pair_lem : (s : Pairs) → Decided s → (g f g' f' : Bool) → Has s g f → Has s g' f' → (g ≡ g') × (f ≡ f')
one_pair_lem s d g f g' f' h h' = grind arith
