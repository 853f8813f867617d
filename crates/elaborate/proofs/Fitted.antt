-- The tables of accepted declarations pass the test of a netlist's tables.
use Rattle.std.proofs.Common.{◌≡◌, ℕ, zero, suc, ◌+◌, ◌<◌, true, List, [], ◌∷◌, ◌++◌, map, length, get_or, take, drop, sym, refl, ap, ap₂, subst, ◌∙◌, arith}
use Rattle.std.proofs.lemmas.List.{length-map, get_or-map, length-take, length-drop}
use Rattle.std.proofs.ByRecursion.{All-get_or}
use Rattle.model.specs.declared.kind.Kind.{Kind}
use Rattle.model.specs.Kinds.{word, takes}
use Rattle.grammar.specs.Grammar.{Statement, input, output, gate}
use Rattle.grammar.specs.Proper.{ProperStatement, AllProper}
use Rattle.grammar.specs.Rules.{Declaration, Among, input_of, nets, inputs, outputs, pins}
use Rattle.circuit.specs.Circuit.{Cell, cell_in}
use Rattle.circuit.specs.Circles.{Ordered}
use Rattle.circuit.specs.Tables as tables
use Rattle.circuit.specs.Tables.{Formed, tables_fit, within_limits}
use Rattle.circuit.specs.declared.net.Net.{Net}
use Rattle.circuit.specs.declared.net.Net.TheVariants.{Input, Gate}
use Rattle.circuit.proofs.Fit.{fit_nets, fit_tables}
use Rattle.elaborate.specs.Elaborate.{place_of, kind_of, cell_of, cells_with, netlist_of}
use Rattle.elaborate.specs.Tabled.{Tabled}
use Rattle.elaborate.proofs.Places.{place_below, kind_word}
use Rattle.elaborate.proofs.Growth.{length-cells}

module _ (names : List (List ℕ)) (kind : Kind) (js : List ℕ) where
  -- a gate's cell has as many operands as its kind takes
  statement_takes : (i : ℕ) (s : Statement) (rest : List Cell) → ProperStatement s → ((k : ℕ) → cell_in rest k ≡ Cell.gate kind js → takes kind (length js) ≡ true) →
      (k : ℕ) → cell_in (cell_of names i s ++ rest) k ≡ Cell.gate kind js → takes kind (length js) ≡ true
  statement_takes i (input n) rest proper later zero e = let z : ◌≡◌ {A = ℕ} 0 1 = cc in absurd (omega arith)
  statement_takes i (input n) rest proper later (suc k) e = later k e
  statement_takes i (output n) rest proper later k e = later k e
  statement_takes i (gate n w os) rest (short, (own, named, fits)) later zero e =
      let same : kind_of w ≡ kind = cc in
      let read : map (place_of names) os ≡ js = cc in
      ap₂ takes (sym same ∙ ap kind_of named ∙ kind_word own) (sym (ap length read) ∙ length-map os (place_of names)) ∙ fits
  statement_takes i (gate n w os) rest proper later (suc k) e = later k e

  cells_take : (i : ℕ) (ds : List Declaration) → AllProper ds → (k : ℕ) → cell_in (cells_with names i ds) k ≡ Cell.gate kind js → takes kind (length js) ≡ true
  cells_take i [] proper k e = let z : ◌≡◌ {A = ℕ} 0 1 = cc in absurd (omega arith)
  cells_take i (d ∷ ds) proper k e =
      statement_takes i d.says (cells_with names (i + length (input_of d.says)) ds) proper.0 (cells_take (i + length (input_of d.says)) ds proper.1) k e

module _ (ds : List Declaration) (table : List Net) (wires : List ℕ) (t : Tabled (nets ds) ds table wires) where
  table_size : length table ≡ length (nets ds)
  table_size = sym (length-map table (tables.cell_of wires)) ∙ ap length t.cells ∙ length-cells (nets ds) 0 ds

  cell_at : (k : ℕ) (net : Net) → k < length table → get_or table k (Input 0) ≡ net → cell_in (cells_with (nets ds) 0 ds) k ≡ tables.cell_of wires net
  cell_at k net l e =
      ap (λ (cs : List Cell). cell_in cs k) (sym t.cells) ∙ get_or-map (tables.cell_of wires) table k (Input 0) (Cell.input 0) l ∙ ap (tables.cell_of wires) e

  table_takes : AllProper ds → (k first count : ℕ) (kind : Kind) → k < length table → get_or table k (Input 0) ≡ Gate kind first count → takes kind count ≡ true
  table_takes proper k first count kind l e =
      let P : Net → Type 0 = Formed wires (length (nets ds)) in
      let formed = subst P e (All-get_or (Formed wires (length (nets ds))) table k (Input 0) l t.formed) in
      let many : length (take count (drop first wires)) ≡ count = simp (length-take, length-drop) (omega (arith, formed.0)) in
      ap (takes kind) (sym many) ∙ cells_take (nets ds) kind (take count (drop first wires)) 0 ds proper k (cell_at k (Gate kind first count) l e)

  pub tabled_fit : (count : ℕ) (outs : List ℕ) → AllProper ds → Ordered (netlist_of ds) → count ≡ length (inputs ds) → outs ≡ map (place_of (nets ds)) (outputs ds) →
      ((n : List ℕ) → Among (pins ds) n → Among (nets ds) n) → ((n : List ℕ) → Among (outputs ds) n → Among (nets ds) n) →
      within_limits count (length table) (length wires) (length outs) ≡ true → tables_fit count table wires outs ≡ true
  tabled_fit count outs proper order many listed operands seen limits =
      fit_tables count table wires outs limits t.follow (fit_nets count table (λ k i l e.
      omega (arith, many, order.input_below k i (omega (arith, table_size, length-cells (nets ds) 0 ds)) (cell_at k (Input i) l e))) (table_takes proper)) (λ i l. placed (pins ds) wires t.wired operands i l) (λ o l. placed (outputs ds) outs listed seen o l)
    where
      placed : (ns : List (List ℕ)) (ks : List ℕ) → ks ≡ map (place_of (nets ds)) ns → ((n : List ℕ) → Among ns n → Among (nets ds) n) → (i : ℕ) → i < length ks → get_or ks i 0 < length table
      placed ns ks e defined i l =
          let h : i < length ns = omega (arith, ap length e, length-map ns (place_of (nets ds))) in
          let is = ap (λ (xs : List ℕ). get_or xs i 0) e ∙ get_or-map (place_of (nets ds)) ns i [] 0 h in
          omega (arith, is, place_below (nets ds) (get_or ns i []) (defined _ (i, h, refl)), table_size)
