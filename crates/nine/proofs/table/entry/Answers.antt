-- The table is tested at all of its entries.
use denote.Enum.Declared.{tag_of}
use Rattle.std.proofs.Common.{◌≡◌, ℕ, ◌+◌, ◌*◌, Bool, true, eqb, get_or, refl}
use Rattle.std.proofs.lemmas.Bool.{eqb-true}
use Rattle.nine.specs.Nine.{gate3, sides, number_below}
use Rattle.nine.specs.NineValues.{nines, same_number}
use Rattle.nine.specs.declared.Nine.{Nine}
use Rattle.nine.specs.declared.table.Operation.{Operation}
use Rattle.nine.specs.declared.table.Operation.TheVariants.{And, Or, Xor}
use Rattle.nine.specs.declared.table.TheConstants.{TABLE}
use Rattle.nine.specs.contracts.table.Operation.{the_type}
use Rattle.nine.proofs.table.entry.Goals as goal

abbrev test : Operation → Nine → Nine → Bool
test k x y = eqb (get_or TABLE (81 * tag_of the_type k + 9 * x.number + y.number) 0) (sides (gate3 k) x y).number

passed : (k : Operation) → nines.all (λ x. nines.all (test k x)) ≡ true
passed And = refl
passed Or = refl
passed Xor = refl

-- what stands at the place of two numbers
found : (k : Operation) (x y : Nine) (i j : ℕ) → i ≡ x.number → j ≡ y.number
    → get_or TABLE (81 * tag_of the_type k + 9 * i + j) 0 ≡ (sides (gate3 k) x y).number
found k x y i j is_x is_y = rw (is_x, is_y) (eqb-true _ _ (nines.at (test k x) (nines.at (λ x. nines.all (test k x)) (passed k) x) y))

pub invariant_of-result : goal.invariant_of-result
invariant_of-result c =
    let is = found c.args.operation c.args.x c.args.y _ _ c.from.ensures c.from-2.ensures in
    record { nine = rw is (number_below _ _) }

pub returns : goal.returns
returns c =
    let is = found c.args.operation c.args.x c.args.y _ _ c.from.ensures c.from-2.ensures in
    record { ruled = same_number _ _ is }
