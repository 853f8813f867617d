-- In an ordered netlist `value` is what the nets carry, and nothing else is.
use Rattle.std.proofs.Common.{◌≡◌, ℕ, zero, suc, ◌<◌, List, [], ◌∷◌, length, sym, refl, ap, ◌∙◌, ap₂, arith}
use Rattle.std.specs.List.{AllByRecursion}
use Rattle.std.proofs.ByRecursion.{All-from_get_or}
use Rattle.model.specs.Operations.{Ops}
use Rattle.circuit.specs.Circuit.{Cell, input, gate, Netlist, Fault, IsNet, ReadsIn, Carries, at_stem, at_pin, seen, combined, cell_value, net_value, cell_in, operands_at, operands_of, settled, value}
use Rattle.circuit.specs.Circles.{Ordered}

module _ {V : Type 0} (ops : Ops V) (c : Netlist) (φ : Fault) (drive : ℕ → V) where
  seen_same : (val val' : ℕ → V) (k p : ℕ) (js : List ℕ) → AllByRecursion (λ j. val j ≡ val' j) js → seen ops φ val k p js ≡ seen ops φ val' k p js
  seen_same val val' k p [] all = refl
  seen_same val val' k p (j ∷ js) all = ap₂ ◌∷◌ (ap (at_pin ops φ k p) all.0) (seen_same val val' k (suc p) js all.1)

  cell_same : (val val' : ℕ → V) (k : ℕ) (cell : Cell) → AllByRecursion (λ j. val j ≡ val' j) (operands_of cell) → cell_value ops φ drive val k cell ≡ cell_value ops φ drive val' k cell
  cell_same val val' k (input i) all = refl
  cell_same val val' k (gate kind js) all = ap (combined ops kind) (seen_same val val' k 0 js all)

  -- a net's value depends only on the nets that it reads
  pub net_same : (val val' : ℕ → V) (k : ℕ) → ((j : ℕ) → ReadsIn c.cells k j → val j ≡ val' j) → net_value ops c φ drive val k ≡ net_value ops c φ drive val' k
  net_same val val' k same =
      ap (at_stem ops φ k) (cell_same val val' k (cell_in c.cells k) (All-from_get_or _ (operands_at c.cells k) 0 λ p within. same _ (p, within, refl)))

  module _ (order : Ordered c) where
    settled_same : (n m k : ℕ) → IsNet c k → order.place k < n → order.place k < m → settled ops c φ drive n k ≡ settled ops c φ drive m k
    unfolding settled
    settled_same zero m k is below under = absurd (omega arith)
    settled_same (suc n) zero k is below under = absurd (omega arith)
    settled_same (suc n) (suc m) k is below under = net_same _ _ k λ j reads.
        settled_same n m j (order.read_net k j is reads) (omega (arith, order.earlier k j is reads)) (omega (arith, order.earlier k j is reads))

    -- the equations have a solution
    pub value_carries : Carries ops c φ drive (value ops c φ drive)
    unfolding value settled
    value_carries k is = settled_same (length c.cells) (suc (length c.cells)) k is (order.within k is) (omega (arith, order.within k is))

    same_below : (val val' : ℕ → V) → Carries ops c φ drive val → Carries ops c φ drive val' → (n k : ℕ) → IsNet c k → order.place k < n → val k ≡ val' k
    same_below val val' X Y zero k is below = absurd (omega arith)
    same_below val val' X Y (suc n) k is below = X k is ∙ net_same val val' k (λ j reads.
        same_below val val' X Y n j (order.read_net k j is reads) (omega (arith, order.earlier k j is reads))) ∙ sym (Y k is)

    -- and only one on the nets
    pub one_solution : {val val' : ℕ → V} → Carries ops c φ drive val → Carries ops c φ drive val' → (k : ℕ) → IsNet c k → val k ≡ val' k
    one_solution X Y k is = same_below _ _ X Y (length c.cells) k is (order.within k is)

    pub carries_value : {val : ℕ → V} → Carries ops c φ drive val → (k : ℕ) → IsNet c k → val k ≡ value ops c φ drive k
    carries_value X k is = one_solution X value_carries k is
