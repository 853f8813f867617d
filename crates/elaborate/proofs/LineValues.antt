-- The netlist's nets have the values that the lines say, and no others have.
use Rattle.std.proofs.Common.{◌≡◌, ℕ, suc, Bool, List, [], ◌∷◌, map, get_or, sym, refl, ap, ◌∙◌, subst, ap₂, arith}
use Rattle.std.specs.List.{ContainsAt}
use Rattle.model.specs.Kinds.{word}
use Rattle.model.specs.Bits.{bit}
use Rattle.grammar.specs.Grammar.{gate}
use Rattle.grammar.specs.Rules.{Declaration, Among, nets}
use Rattle.circuit.specs.Circuit.{Cell, none, plain, seen, combined, cell_value, cell_in, IsNet, Carries, good}
use Rattle.circuit.proofs.Settle.{value_carries, carries_value}
use Rattle.elaborate.specs.Elaborate.{place_of, kind_of, cells_of, netlist_of}
use Rattle.elaborate.specs.Values.{LinesHold, value_named, NamesHaveTheirLinesValues, WellDeclared}
use Rattle.elaborate.proofs.Places.{place_below, among_at_place, place_unique, kind_word, known_kind}
use Rattle.elaborate.proofs.Growth.{length-cells}
use Rattle.elaborate.proofs.Cells.{NetAt, gate_net, input_net, Defined, by_input, by_gate, net_defined, operand_pin}

seen_map : (f : ℕ → Bool) (k p : ℕ) (g : List ℕ → ℕ) (os : List (List ℕ)) → seen plain none f k p (map g os) ≡ map (λ o. f (g o)) os
seen_map f k p g [] = refl
seen_map f k p g (o ∷ os) = ap (λ (xs : List Bool). f (g o) ∷ xs) (seen_map f k (suc p) g os)

-- values of names, by the names' numbers
abbrev numbered : List (List ℕ) → (List ℕ → Bool) → ℕ → Bool
numbered names val j = val (get_or names j [])

-- names that stand in the list may go by their places
by_places : (val : List ℕ → Bool) (names os : List (List ℕ)) → ((o : List ℕ) → Among os o → Among names o) → map (λ o. numbered names val (place_of names o)) os ≡ map val os
by_places val names [] all = refl
by_places val names (o ∷ os) all =
    ap₂ ◌∷◌ (ap val (among_at_place names o (all o (0, omega arith, refl)))) (by_places val names os (λ n (i, h, e). all n (suc i, omega arith, e)))

module _ (ds : List Declaration) (w : WellDeclared ds) where
  kind_of_lem : (l : ℕ) (n k : List ℕ) (os : List (List ℕ)) → ContainsAt ds (record { line = l; says = gate n k os }) → k ≡ word (kind_of k)
  kind_of_lem l n k os has = known_kind k (w.kinds_known (record { line = l; says = gate n k os }) has)

  module _ (v : ℕ) where
    carries_good : Carries plain (netlist_of ds) none (bit v) (good (netlist_of ds) v)
    unfolding good
    carries_good = value_carries plain (netlist_of ds) none (bit v) w.ordered

    only_good : (val : ℕ → Bool) → Carries plain (netlist_of ds) none (bit v) val → (k : ℕ) → IsNet (netlist_of ds) k → val k ≡ good (netlist_of ds) v k
    unfolding good
    only_good val C k is = carries_value plain (netlist_of ds) none (bit v) w.ordered C k is

    -- what the net at the place of a name carries
    named_value : (n : List ℕ) (cell : Cell) → ((p : ℕ) × NetAt (nets ds) 0 ds p n cell) → (p : ℕ) × (value_named ds v n ≡ cell_value plain none (bit v) (good (netlist_of ds) v) p cell)
    named_value n cell (p, a) =
        let e = place_unique (nets ds) n p w.defined_once a.below a.name in
        (p, ap (good (netlist_of ds) v) e ∙ carries_good p (omega (arith, a.below, length-cells (nets ds) 0 ds)) ∙ ap (cell_value plain none (bit v) (good (netlist_of ds) v) p) a.is)

    pub lines_hold : LinesHold ds v (value_named ds v)
    lines_hold = record {
      input_bits = λ i h. (named_value _ (Cell.input i) (input_net (nets ds) 0 ds i i h (omega arith))).1;
      gate_values = λ l n kind os has.
          let (p, e) = named_value n _ (gate_net (nets ds) 0 ds l n (word kind) os has) in
          e ∙ ap₂ (combined plain) (kind_word kind) (seen_map (good (netlist_of ds) v) p 0 (place_of (nets ds)) os);
    }

    -- values that the lines hold for are what the nets carry
    held_carries : (val : List ℕ → Bool) → LinesHold ds v val → Carries plain (netlist_of ds) none (bit v) (numbered (nets ds) val)
    held_carries val L k is = at (net_defined (nets ds) 0 ds k (omega (arith, is, length-cells (nets ds) 0 ds)))
      where
        at : Defined (nets ds) 0 ds k → val (get_or (nets ds) k []) ≡ cell_value plain none (bit v) (numbered (nets ds) val) k (cell_in (cells_of ds) k)
        at (by_input q t h e f is) =
            let s : q ≡ t = omega arith in
            ap val (sym f) ∙ L.input_bits q h ∙ ap (bit v) s ∙ sym (ap (cell_value plain none (bit v) (numbered (nets ds) val) k) is)
        at (by_gate l n kw os has f is) =
            let kw-is = kind_of_lem l n kw os has in
            let P : List ℕ → Type 0 = λ u. ContainsAt ds (record { line = l; says = gate n u os }) in
            ap val (sym f) ∙ L.gate_values l n (kind_of kw) os (subst P kw-is has) ∙
            ap (combined plain (kind_of kw)) (sym (seen_map (numbered (nets ds) val) k 0 (place_of (nets ds)) os ∙ by_places val (nets ds) os (λ o a. w.operands_defined o (operand_pin ds l n kw os has o a)))) ∙
            sym (ap (cell_value plain none (bit v) (numbered (nets ds) val) k) is)

    pub lines_hold_only : (val : List ℕ → Bool) → LinesHold ds v val → (n : List ℕ) → Among (nets ds) n → val n ≡ value_named ds v n
    lines_hold_only val L n a =
        let below = place_below (nets ds) n a in
        ap val (sym (among_at_place (nets ds) n a)) ∙ only_good _ (held_carries val L) (place_of (nets ds) n) (omega (arith, below, length-cells (nets ds) 0 ds))

  pub names_have_their_lines_values : NamesHaveTheirLinesValues ds
  names_have_their_lines_values v = (lines_hold v, lines_hold_only v)
