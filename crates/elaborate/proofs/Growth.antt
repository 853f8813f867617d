-- The cells of more declarations, from those of fewer.
use Rattle.std.proofs.Common.{◌≡◌, ℕ, ◌+◌, ◌<◌, List, [], ◌∷◌, ◌++◌, length, sym, refl, ap, ◌∙◌, arith}
use Rattle.std.proofs.lemmas.List.{append-nil, append_assoc, length-append, get_or_append_left}
use Rattle.grammar.specs.Grammar.{Statement, input, output, gate}
use Rattle.grammar.specs.Rules.{Declaration, net_of, input_of, nets, inputs}
use Rattle.circuit.specs.Circuit.{Cell, cell_in}
use Rattle.elaborate.specs.Elaborate.{cell_of, cells_with}

-- the places go by one fixed list of names
module _ (names : List (List ℕ)) where
  pub cells_append : (i : ℕ) (ds es : List Declaration) → cells_with names i (ds ++ es) ≡ cells_with names i ds ++ cells_with names (i + length (inputs ds)) es
  cells_append i [] es = let e : i ≡ i + 0 = omega arith in ap (λ (j : ℕ). cells_with names j es) e
  cells_append i (d ∷ ds) es =
      let s = d.says in
      let more = i + length (input_of s) in
      let e : more + length (inputs ds) ≡ i + length (input_of s ++ inputs ds) = omega (arith, length-append (input_of s) (inputs ds)) in
      ap (λ (cs : List Cell). cell_of names i s ++ cs) (cells_append more ds es ∙ ap (λ (j : ℕ). cells_with names more ds ++ cells_with names j es) e) ∙
      sym (append_assoc (cell_of names i s) (cells_with names more ds) (cells_with names (i + length (input_of s ++ inputs ds)) es))

  pub cells_push : (ds : List Declaration) (d : Declaration) → cells_with names 0 (ds ++ d ∷ []) ≡ cells_with names 0 ds ++ cell_of names (length (inputs ds)) d.says
  cells_push ds d =
      let e : 0 + length (inputs ds) ≡ length (inputs ds) = omega arith in
      cells_append 0 ds (d ∷ []) ∙ ap (λ (j : ℕ). cells_with names 0 ds ++ cells_with names j (d ∷ [])) e ∙
      ap (λ (cs : List Cell). cells_with names 0 ds ++ cs) (append-nil (cell_of names (length (inputs ds)) d.says))

  length-cell : (i : ℕ) (s : Statement) → length (cell_of names i s) ≡ length (net_of s)
  length-cell i (input n) = refl
  length-cell i (output n) = refl
  length-cell i (gate n k os) = refl

  -- one cell for each net
  pub length-cells : (i : ℕ) (ds : List Declaration) → length (cells_with names i ds) ≡ length (nets ds)
  length-cells i [] = refl
  length-cells i (d ∷ ds) =
      let s = d.says in
      let more = i + length (input_of s) in
      omega (arith, length-append (cell_of names i s) (cells_with names more ds), length-append (net_of s) (nets ds), length-cell i s, length-cells more ds)

  -- the cells of the first declarations stay what they are
  pub cell_kept : (i : ℕ) (ds es : List Declaration) (k : ℕ) → k < length (nets ds) → cell_in (cells_with names i (ds ++ es)) k ≡ cell_in (cells_with names i ds) k
  cell_kept i ds es k h =
      ap (λ (cs : List Cell). cell_in cs k) (cells_append i ds es) ∙ get_or_append_left (cells_with names i ds) (cells_with names (i + length (inputs ds)) es) (Cell.input 0) k (omega (arith, length-cells i ds))
