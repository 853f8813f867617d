-- A netlist's tables, declaration by declaration; places go by one fixed list of names.
use Rattle.std.proofs.Common.{◌≡◌, ℕ, ◌+◌, ◌≤◌, List, [], ◌∷◌, ◌++◌, map, length, get_or, take, drop, sym, refl, ap, ◌∙◌, ap₂, arith}
use Rattle.std.specs.List.{AllByRecursion}
use Rattle.std.proofs.lemmas.List.{append-nil, length-append, length-map, get_or_append_left, get_or-append-add, get_or-map, map_push, map-append, take_all, take-append-le, drop_at, drop-append-le, length-drop}
use Rattle.std.proofs.ByRecursion.{All-push, All-weaker}
use Rattle.model.specs.declared.kind.Kind.{Kind}
use Rattle.model.specs.Kinds.{word}
use Rattle.grammar.specs.Grammar.{Statement, input, output, gate}
use Rattle.grammar.specs.Rules.{Declaration, Among, pins_of, inputs, pins}
use Rattle.circuit.specs.Circuit.{Cell}
use Rattle.circuit.specs.Tables as tables
use Rattle.circuit.specs.Tables.{Formed}
use Rattle.circuit.proofs.Fit.{follow_input, follow_gate}
use Rattle.circuit.specs.declared.net.Net.{Net}
use Rattle.circuit.specs.declared.net.Net.TheVariants.{Input, Gate}
use Rattle.elaborate.specs.Elaborate.{place_of, kind_of, cell_of, cells_with}
use Rattle.elaborate.specs.Tabled.{Tabled}
use Rattle.elaborate.proofs.Places.{place_below, kind_word}
use Rattle.elaborate.proofs.Gathered.{gathered_push}
use Rattle.elaborate.proofs.Growth.{cells_push}

-- more pins behind the others change no cell
cell_same : (wires more : List ℕ) (n : ℕ) (net : Net) → Formed wires n net → tables.cell_of (wires ++ more) net ≡ tables.cell_of wires net
cell_same wires more n (Input i) f = refl
cell_same wires more n (Gate kind first count) f =
    ap (Cell.gate kind) (ap (take count) (drop-append-le first wires more (omega (arith, f.0))) ∙ take-append-le count (drop first wires) more (omega (arith, f.0, length-drop first wires)))

cells_same : (wires more : List ℕ) (n : ℕ) (table : List Net) → AllByRecursion (Formed wires n) table → tables.cells_of table (wires ++ more) ≡ tables.cells_of table wires
cells_same wires more n [] all = refl
cells_same wires more n (net ∷ table) all = ap₂ ◌∷◌ (cell_same wires more n net all.0) (cells_same wires more n table all.1)

still_formed : (wires more : List ℕ) (n : ℕ) (net : Net) → Formed wires n net → Formed (wires ++ more) n net
still_formed wires more n (Input i) f = tt
still_formed wires more n (Gate kind first count) (inside, few, below) = (
  omega (arith, inside, length-append wires more),
  few,
  λ q h. let is = get_or_append_left wires more 0 (first + q) (omega (arith, inside)) in omega (arith, is, below q h),
)

module _ (names : List (List ℕ)) where
  pub tabled_none : Tabled names [] [] []
  tabled_none = record { cells = refl; wired = refl; formed = tt; follow = refl }

  module _ (ds : List Declaration) (d : Declaration) (table : List Net) (wires : List ℕ) (so_far : Tabled names ds table wires) where
    wires_more : (os : List (List ℕ)) → pins_of d.says ≡ os → wires ++ map (place_of names) os ≡ map (place_of names) (pins (ds ++ d ∷ []))
    wires_more os e =
        ap (λ (ws : List ℕ). ws ++ map (place_of names) os) so_far.wired ∙ sym (map-append (place_of names) (pins ds) os) ∙
        ap (map (place_of names)) (sym (gathered_push pins_of ds d ∙ ap (λ (ns : List (List ℕ)). pins ds ++ ns) e))

    cells_more : (s : Statement) → d.says ≡ s → tables.cells_of table wires ++ cell_of names (length (inputs ds)) s ≡ cells_with names 0 (ds ++ d ∷ [])
    cells_more s e = ap₂ ◌++◌ so_far.cells (ap (cell_of names (length (inputs ds))) (sym e)) ∙ sym (cells_push names ds d)

    -- an input's line
    pub tabled_input : (n : List ℕ) → d.says ≡ input n → Tabled names (ds ++ d ∷ []) (table ++ Input (length (inputs ds)) ∷ []) wires
    tabled_input n e = record {
      cells = map_push (tables.cell_of wires) table (Input (length (inputs ds))) ∙ cells_more (input n) e;
      wired = sym (append-nil wires) ∙ wires_more [] (ap pins_of e);
      formed = All-push (Formed wires (length names)) table (Input (length (inputs ds))) so_far.formed tt;
      follow = follow_input 0 (length wires) table (length (inputs ds)) so_far.follow;
    }

    -- an output's line
    pub tabled_output : (n : List ℕ) → d.says ≡ output n → Tabled names (ds ++ d ∷ []) table wires
    tabled_output n e = record {
      cells = sym (append-nil (tables.cells_of table wires)) ∙ cells_more (output n) e;
      wired = sym (append-nil wires) ∙ wires_more [] (ap pins_of e);
      formed = so_far.formed;
      follow = so_far.follow;
    }

    -- a gate's line, whose operands are defined
    pub tabled_gate : (n : List ℕ) (kind : Kind) (os : List (List ℕ)) → d.says ≡ gate n (word kind) os → length os ≤ 16 → ((o : List ℕ) → Among os o → Among names o) →
        Tabled names (ds ++ d ∷ []) (table ++ Gate kind (length wires) (length os) ∷ []) (wires ++ map (place_of names) os)
    tabled_gate n kind os e few defined =
        let ps = map (place_of names) os in
        let net = Gate kind (length wires) (length os) in
        let size = length-map os (place_of names) in
        let own : tables.cell_of (wires ++ ps) net ≡ Cell.gate kind ps = ap (Cell.gate kind) (ap (take (length os)) (drop_at wires ps (length wires) refl) ∙ take_all (length os) ps (omega (arith, size))) in
        let named : Cell.gate kind ps ≡ Cell.gate (kind_of (word kind)) ps = ap (λ (k : Kind). Cell.gate k ps) (sym (kind_word kind)) in
        record {
          cells = map_push (tables.cell_of (wires ++ ps)) table net ∙
              ap₂ (λ (cs : List Cell) (c : Cell). cs ++ c ∷ []) (cells_same wires ps (length names) table so_far.formed) (own ∙ named) ∙ cells_more (gate n (word kind) os) e;
          wired = wires_more os (ap pins_of e);
          formed = All-push (Formed (wires ++ ps) (length names)) table net (All-weaker (Formed wires (length names)) (Formed (wires ++ ps) (length names)) (still_formed wires ps (length names)) table so_far.formed) (
            omega (arith, size, length-append wires ps),
            few,
            λ q h.
                let is = get_or-append-add wires ps q 0 in
                let at = get_or-map (place_of names) os q [] 0 h in
                omega (arith, is, at, place_below names (get_or os q []) (defined (get_or os q []) (q, h, refl))),
          );
          follow = follow_gate 0 (length wires) (length (wires ++ ps)) table kind (length os) (omega (arith, size, length-append wires ps)) so_far.follow;
        }
