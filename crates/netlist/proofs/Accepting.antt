-- What the loader uses of the declarations of an accepted text.
use Rattle.std.proofs.Common.{◌≡◌, ℕ, zero, suc, ◌<◌, ◌≤◌, true, List, [], ◌∷◌, length, get_or, arith}
use Rattle.std.proofs.lemmas.Bool.Decides.{nat_tests}
use Rattle.std.specs.List.{AllByRecursion}
use Rattle.model.specs.declared.kind.Kind.{Kind}
use Rattle.model.specs.declared.kind.Kind.TheVariants.{And, Nand, Or, Nor, Xor, Xnor, Not, Buff}
use Rattle.model.specs.Kinds.{takes}
use Rattle.grammar.specs.Grammar.{Statement, input, output, gate}
use Rattle.grammar.specs.Proper.{ProperStatement, AllProper}
use Rattle.grammar.specs.Rules.{Declaration, net_of, pins_of}

few_taken : (k : Kind) (n : ℕ) → takes k n ≡ true → n ≤ 16
few_taken And n h = grind (arith, nat_tests)
few_taken Nand n h = grind (arith, nat_tests)
few_taken Or n h = grind (arith, nat_tests)
few_taken Nor n h = grind (arith, nat_tests)
few_taken Xor n h = grind (arith, nat_tests)
few_taken Xnor n h = grind (arith, nat_tests)
few_taken Not n h = grind (arith, nat_tests)
few_taken Buff n h = grind (arith, nat_tests)

few_pins_lem : (s : Statement) → ProperStatement s → length (pins_of s) ≤ 16
few_pins_lem (input n) h = omega arith
few_pins_lem (output n) h = omega arith
few_pins_lem (gate n k os) h = few_taken h.1.0 (length os) h.1.2

short_net : (s : Statement) → ProperStatement s → AllByRecursion (λ n. length n ≤ 16) (net_of s)
short_net (input n) h = (h, tt)
short_net (output n) h = tt
short_net (gate n k os) h = (h.0, tt)

proper_at : (ds : List Declaration) (i : ℕ) (d : Declaration) → i < length ds → AllProper ds → ProperStatement (get_or ds i d).says
proper_at [] i d h a = absurd (omega (arith, h))
proper_at (e ∷ ds) zero d h a = a.0
proper_at (e ∷ ds) (suc i) d h a = proper_at ds i d (omega arith) a.1

module _ (ds : List Declaration) (proper : AllProper ds) (i : ℕ) (d : Declaration) (inside : i < length ds) where
  pub few_pins : length (pins_of (get_or ds i d).says) ≤ 16
  few_pins = few_pins_lem (get_or ds i d).says (proper_at ds i d inside proper)

  pub short_names : AllByRecursion (λ n. length n ≤ 16) (net_of (get_or ds i d).says)
  short_names = short_net (get_or ds i d).says (proper_at ds i d inside proper)
