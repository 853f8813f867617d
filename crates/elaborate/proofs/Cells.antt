-- Which cell the net of each line has, and which line has each net.
use Rattle.std.proofs.Common.{◌≡◌, ℕ, zero, suc, ◌+◌, ◌<◌, List, [], ◌∷◌, ◌++◌, map, length, get_or, sym, refl, ap, ◌∙◌, arith}
use Rattle.std.specs.List.{ContainsAt}
use Rattle.std.proofs.lemmas.List.{length-append, get_or-append-add, get_or_append_left}
use Rattle.grammar.specs.Grammar.{Statement, input, output, gate}
use Rattle.grammar.specs.Rules.{Declaration, Among, input_of, pins_of, nets, inputs, pins}
use Rattle.circuit.specs.Circuit.{Cell, cell_in}
use Rattle.elaborate.specs.Elaborate.{place_of, kind_of, cells_with}

-- net p has this name and this cell
pub record NetAt (names : List (List ℕ)) (i : ℕ) (ds : List Declaration) (p : ℕ) (n : List ℕ) (cell : Cell) : Type 0 where
  pub below : p < length (nets ds)
  pub name : get_or (nets ds) p [] ≡ n
  pub is : cell_in (cells_with names i ds) p ≡ cell

module _ (names : List (List ℕ)) where
  abbrev gate_cell : List ℕ → List (List ℕ) → Cell
  gate_cell k os = Cell.gate (kind_of k) (map (place_of names) os)

  -- one declaration before the others
  later : (i : ℕ) (d : Declaration) (ds : List Declaration) (n : List ℕ) (cell : Cell) → ((p : ℕ) × NetAt names (i + length (input_of d.says)) ds p n cell) → (p : ℕ) × NetAt names i (d ∷ ds) p n cell
  later i d ds n cell (p, a) = at d.line d.says a
    where
      at : (l : ℕ) (s : Statement) → NetAt names (i + length (input_of s)) ds p n cell → (q : ℕ) × NetAt names i (record { line = l; says = s } ∷ ds) q n cell
      at l (input m) a = (suc p, record { below = omega arith; name = a.name; is = a.is })
      at l (output m) a = (p, record { below = a.below; name = a.name; is = a.is })
      at l (gate m k os) a = (suc p, record { below = omega arith; name = a.name; is = a.is })

  -- the net of a gate's line
  pub gate_net : (i : ℕ) (ds : List Declaration) (l : ℕ) (n k : List ℕ) (os : List (List ℕ)) → ContainsAt ds (record { line = l; says = gate n k os }) → (p : ℕ) × NetAt names i ds p n (gate_cell k os)
  gate_net i [] l n k os (q, h, e) = absurd (omega arith)
  gate_net i (d ∷ ds) l n k os (zero, h, e) = at d.line d.says (ap (λ (c : Declaration). c.says) (e d))
    where
      at : (l : ℕ) (s : Statement) → s ≡ gate n k os → (p : ℕ) × NetAt names i (record { line = l; says = s } ∷ ds) p n (gate_cell k os)
      at l (input m) e = let z : ◌≡◌ {A = ℕ} 0 1 = cc in absurd (omega arith)
      at l (output m) e = let z : ◌≡◌ {A = ℕ} 0 1 = cc in absurd (omega arith)
      at l (gate m k' os') e =
          let f : m ≡ n = cc in
          let g : k' ≡ k = cc in
          let h : os' ≡ os = cc in
          (0, record { below = omega arith; name = f; is = cc })
  gate_net i (d ∷ ds) l n k os (suc q, h, e) = later i d ds n (gate_cell k os) (gate_net (i + length (input_of d.says)) ds l n k os (q, omega arith, e))

  -- the net of input q
  pub input_net : (i : ℕ) (ds : List Declaration) (q t : ℕ) → q < length (inputs ds) → t ≡ i + q → (p : ℕ) × NetAt names i ds p (get_or (inputs ds) q []) (Cell.input t)
  input_net i [] q t h e = absurd (omega arith)
  input_net i (d ∷ ds) q t h e = at d.line d.says q h e (input_net (i + length (input_of d.says)) ds)
    where
      at : (l : ℕ) (s : Statement) (q : ℕ) → q < length (input_of s ++ inputs ds) → t ≡ i + q → ((q t : ℕ) → q < length (inputs ds) → t ≡ (i + length (input_of s)) + q → (p : ℕ) × NetAt names (i + length (input_of s)) ds p (get_or (inputs ds) q []) (Cell.input t)) →
          (p : ℕ) × NetAt names i (record { line = l; says = s } ∷ ds) p (get_or (input_of s ++ inputs ds) q []) (Cell.input t)
      at l (input m) zero h e more = (0, record { below = omega arith; name = refl; is = let f : i ≡ t = omega arith in ap Cell.input f })
      at l (input m) (suc q) h e more = later i (record { line = l; says = input m }) ds (get_or (inputs ds) q []) (Cell.input t) (more q t (omega arith) (omega arith))
      at l (output m) q h e more = later i (record { line = l; says = output m }) ds (get_or (inputs ds) q []) (Cell.input t) (more q t h (omega arith))
      at l (gate m k os) q h e more = later i (record { line = l; says = gate m k os }) ds (get_or (inputs ds) q []) (Cell.input t) (more q t h (omega arith))

  -- each net stands for an input, or for a gate's line
  pub data Defined (i : ℕ) (ds : List Declaration) (p : ℕ) : Type 0 where
    by_input : (q t : ℕ) → q < length (inputs ds) → t ≡ i + q → get_or (inputs ds) q [] ≡ get_or (nets ds) p [] → cell_in (cells_with names i ds) p ≡ Cell.input t → Defined i ds p
    by_gate : (l : ℕ) (n k : List ℕ) (os : List (List ℕ)) → ContainsAt ds (record { line = l; says = gate n k os }) → n ≡ get_or (nets ds) p [] → cell_in (cells_with names i ds) p ≡ gate_cell k os → Defined i ds p

  pub net_defined : (i : ℕ) (ds : List Declaration) (p : ℕ) → p < length (nets ds) → Defined i ds p
  net_defined i [] p h = absurd (omega arith)
  net_defined i (d ∷ ds) p h = at d.line d.says p h (net_defined (i + length (input_of d.says)) ds)
    where
      after : (l : ℕ) (s : Statement) (p q : ℕ) → get_or (nets (record { line = l; says = s } ∷ ds)) q [] ≡ get_or (nets ds) p [] → cell_in (cells_with names i (record { line = l; says = s } ∷ ds)) q ≡ cell_in (cells_with names (i + length (input_of s)) ds) p →
          Defined (i + length (input_of s)) ds p → Defined i (record { line = l; says = s } ∷ ds) q
      after l s p q same is (by_input r t g e f c) =
          by_input (length (input_of s) + r) t (omega (arith, length-append (input_of s) (inputs ds))) (omega arith) (get_or-append-add (input_of s) (inputs ds) r [] ∙ f ∙ sym same) (is ∙ c)
      after l s p q same is (by_gate m n k os (r, g, e) f c) = by_gate m n k os (suc r, omega arith, e) (f ∙ sym same) (is ∙ c)

      at : (l : ℕ) (s : Statement) (p : ℕ) → p < length (nets (record { line = l; says = s } ∷ ds)) → ((p : ℕ) → p < length (nets ds) → Defined (i + length (input_of s)) ds p) → Defined i (record { line = l; says = s } ∷ ds) p
      at l (input m) zero h more = by_input 0 i (omega arith) (omega arith) refl refl
      at l (input m) (suc p) h more = after l (input m) p (suc p) refl refl (more p (omega arith))
      at l (output m) p h more = after l (output m) p p refl refl (more p h)
      at l (gate m k os) zero h more = by_gate l m k os (0, omega arith, λ _. refl) refl refl
      at l (gate m k os) (suc p) h more = after l (gate m k os) p (suc p) refl refl (more p (omega arith))

-- a gate's operands are pins
pub operand_pin : (ds : List Declaration) (l : ℕ) (n k : List ℕ) (os : List (List ℕ)) → ContainsAt ds (record { line = l; says = gate n k os }) → (o : List ℕ) → Among os o → Among (pins ds) o
operand_pin [] l n k os (q, h, e) o a = absurd (omega arith)
operand_pin (d ∷ ds) l n k os (zero, h, e) o (r, g, f) =
    let s : pins_of d.says ≡ os = ap (λ (c : Declaration). pins_of c.says) (e d) in
    let b : r < length (pins_of d.says) = omega (arith, ap length s) in
    (r, omega (arith, length-append (pins_of d.says) (pins ds)), get_or_append_left (pins_of d.says) (pins ds) [] r b ∙ ap (λ (xs : List (List ℕ)). get_or xs r []) s ∙ f)
operand_pin (d ∷ ds) l n k os (suc q, h, e) o a =
    let (r, g, f) = operand_pin ds l n k os (q, omega arith, e) o a in
    (length (pins_of d.says) + r, omega (arith, length-append (pins_of d.says) (pins ds)), get_or-append-add (pins_of d.says) (pins ds) r [] ∙ f)
