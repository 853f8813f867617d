-- The loader's tables, as the search for an order takes them.
use Rattle.std.proofs.Common.{◌≡◌, ℕ, ◌<◌, List, [], ◌∷◌, length, get_or, vec_items, sym, refl, ap, ◌∙◌, subst, arith}
use Rattle.std.proofs.lemmas.List.{length-map}
use Rattle.std.proofs.ByRecursion.{All-get_or}
use Rattle.grammar.specs.Rules.{Declaration, nets, inputs, outputs}
use Rattle.circuit.specs.Circles.{CircleFree, FirstDependent}
use Rattle.circuit.specs.Tables.{cell_of, Formed, AllFormed}
use Rattle.circuit.specs.Tables as tables
use Rattle.circuit.specs.declared.net.Net.{Net}
use Rattle.circuit.specs.declared.net.Net.TheVariants.{Input}
use Rattle.elaborate.specs.Elaborate.{cells_of}
use Rattle.elaborate.specs.Whole.{Rising, RefusedWhole, AcceptedWhole, net_lines}
use Rattle.elaborate.proofs.Growth.{length-cells}
use Rattle.elaborate.proofs.Refused.{refused_circle, accepted_whole}
use Rattle.netlist.specs.declared.resolve.Parts.{Parts}
use Rattle.netlist.specs.declared.tables.Tables.{Tables}
use Rattle.netlist.specs.Laid.{LaidIn}
use Rattle.netlist.specs.Building.{Resolved}

pub tables_size : (ds : List Declaration) (t : Tables) → LaidIn (nets ds) ds t → length (vec_items t.nets) ≡ length (nets ds)
tables_size ds t h =
    sym (length-map (vec_items t.nets) (cell_of (vec_items t.pins))) ∙ ap length h.tabled.cells ∙ length-cells (nets ds) 0 ds

module _ (ds : List Declaration) (t : Tables) (xs : List Net) (ps : List ℕ) (e : xs ≡ vec_items t.nets) (f : ps ≡ vec_items t.pins) (h : LaidIn (nets ds) ds t) where
  pub tables_formed : AllFormed xs ps
  tables_formed =
      let P : List Net → List ℕ → Type 0 = AllFormed in
      let own : AllFormed (vec_items t.nets) (vec_items t.pins) = λ k l. let Q : ℕ → Type 0 = λ n. Formed (vec_items t.pins) n (get_or (vec_items t.nets) k (Input 0)) in subst Q (sym (tables_size ds t h)) (All-get_or (Formed (vec_items t.pins) (length (nets ds))) (vec_items t.nets) k (Input 0) l h.tabled.formed) in
      subst (λ (ns : List Net). P ns ps) (sym e) (subst (P (vec_items t.nets)) (sym f) own)

  pub tables_cells : tables.cells_of xs ps ≡ cells_of ds
  tables_cells =
      ap (λ (ns : List Net). tables.cells_of ns ps) e ∙ ap (tables.cells_of (vec_items t.nets)) f ∙ h.tabled.cells

some : (xs : List (List ℕ)) → (xs ≡ [] → ⊥) → 0 < length xs
some [] f = absurd (f refl)
some (x ∷ xs) f = omega arith

module _ (ds : List Declaration) (p : Parts) (rising : Rising ds) (r : Resolved ds p) where
  pub accepted_all : CircleFree (cells_of ds) → AcceptedWhole ds
  accepted_all free =
      accepted_whole ds r.operands r.listed (some (inputs ds) r.some_input) (some (outputs ds) r.some_output) free

  pub refused_first : (k line : ℕ) → line ≡ get_or (net_lines ds) k 0 → FirstDependent (cells_of ds) k → RefusedWhole ds 13 line
  refused_first k line e f =
      subst (RefusedWhole ds 13) (sym e) (refused_circle ds r.operands r.listed (some (inputs ds) r.some_input) (some (outputs ds) r.some_output) rising k f)
