-- One declaration more in the tables of the loader.
use Rattle.std.proofs.Common.{◌≡◌, ℕ, ◌+◌, ◌≤◌, List, [], ◌∷◌, ◌++◌, map, length, vec_items, vec_len, Ok, sym, refl, ap, ◌∙◌, subst, arith}
use Rattle.std.proofs.lemmas.List.{append-nil, length-append, map_push}
use Rattle.model.specs.declared.kind.Kind.{Kind}
use Rattle.model.specs.Kinds.{word}
use Rattle.names.specs.declared.name.Name.{Name}
use Rattle.text.specs.declared.cursor.Cursor.{Cursor}
use Rattle.text.specs.Tokens.{names_left}
use Rattle.bench.specs.declared.statement.Declaration as code
use Rattle.bench.specs.declared.statement.Statement.TheVariants as statement
use Rattle.bench.specs.Statements.{said}
use Rattle.grammar.specs.Grammar.{Statement, input, output, gate}
use Rattle.grammar.specs.Rules.{Declaration, inputs, input_of, nets, net_of, pins_of}
use Rattle.circuit.specs.declared.net.Net.{Net}
use Rattle.circuit.specs.declared.net.Net.TheVariants.{Input, Gate}
use Rattle.elaborate.specs.Elaborate.{place_of}
use Rattle.elaborate.specs.Tabled.{Tabled}
use Rattle.elaborate.specs.Whole.{net_lines}
use Rattle.elaborate.proofs.NetLines.{lines_push}
use Rattle.elaborate.proofs.Gathered.{gathered_push}
use Rattle.elaborate.proofs.Tabled.{tabled_input, tabled_output, tabled_gate}
use Rattle.netlist.specs.declared.tables.Tables.{Tables}
use Rattle.netlist.specs.Resolved.{Covered}
use Rattle.netlist.specs.Laid.{LaidIn, LaysOne}
use Rattle.netlist.specs.Names.{name_bytes, names_of, lines_of}
use Rattle.netlist.specs.declared.tables.Definition.{Definition}

inputs_push : (ds : List Declaration) (line : ℕ) (s : Statement) → length (inputs (ds ++ record { line = line; says = s } ∷ [])) ≡ length (inputs ds) + length (input_of s)
inputs_push ds line s =
    ap length (gathered_push input_of ds (record { line = line; says = s })) ∙ length-append (inputs ds) (input_of s)

no_names : (names : List (List ℕ)) → Covered names []
no_names names n (i, l, e) = absurd (omega (arith, l))

-- what a statement at a line adds to the tables
abbrev Lays : List (List ℕ) → ℕ → Statement → Tables → Tables → Type 0
Lays names line s t u = Covered names (pins_of s) × ((ds : List Declaration) → LaidIn names ds t → LaidIn names (ds ++ record { line = line; says = s } ∷ []) u)

-- a definition behind those of the declarations before it
named : (xs ys : List Definition) (ds : List Declaration) (d : Declaration) (n : List ℕ) → names_of xs ≡ nets ds → ys ≡ xs ++ record { name = record { items = n }; line = d.line } ∷ [] → net_of d.says ≡ n ∷ [] → names_of ys ≡ nets (ds ++ d ∷ [])
named xs ys ds d n h e f =
    ap names_of e ∙ map_push name_bytes xs _ ∙ ap (λ (ns : List (List ℕ)). ns ++ n ∷ []) h ∙ ap (λ (ns : List (List ℕ)). nets ds ++ ns) (sym f) ∙ sym (gathered_push net_of ds d)

lined : (xs ys : List Definition) (ds : List Declaration) (d : Declaration) (n : List ℕ) → lines_of xs ≡ net_lines ds → ys ≡ xs ++ record { name = record { items = n }; line = d.line } ∷ [] → net_of d.says ≡ n ∷ [] → lines_of ys ≡ net_lines (ds ++ d ∷ [])
lined xs ys ds d n h e f =
    ap lines_of e ∙ map_push (λ (x : Definition). x.line) xs _ ∙ ap (λ (ls : List ℕ). ls ++ d.line ∷ []) h ∙ ap (λ (ns : List (List ℕ)). net_lines ds ++ map (λ _. d.line) ns) (sym f) ∙ sym (lines_push ds d)

module _ (names : List (List ℕ)) (t u : Tables) (line : ℕ) (n : List ℕ) (pushed : vec_items u.definitions ≡ vec_items t.definitions ++ record { name = record { items = n }; line = line } ∷ []) where
  input_said : vec_items u.nets ≡ vec_items t.nets ++ Input t.inputs ∷ [] → u.pins ≡ t.pins → u.inputs ≡ t.inputs + 1 → Lays names line (input n) t u
  input_said e p i = (
    no_names names,
    λ ds h.
        let d : Declaration = record { line = line; says = input n } in
        let Q : List Net → List ℕ → Type 0 = λ ns ps. Tabled names (ds ++ d ∷ []) ns ps in
        let laid = tabled_input names ds d (vec_items t.nets) (vec_items t.pins) h.tabled n refl in
        let table : vec_items u.nets ≡ vec_items t.nets ++ Input (length (inputs ds)) ∷ [] = e ∙ ap (λ (k : ℕ). vec_items t.nets ++ Input k ∷ []) h.counted in
        record {
          tabled = subst (λ (ns : List Net). Q ns (vec_items u.pins)) (sym table) (subst (Q (vec_items t.nets ++ Input (length (inputs ds)) ∷ [])) (sym (ap vec_items p)) laid);
          counted = omega (arith, i, h.counted, inputs_push ds line (input n));
          named = named (vec_items t.definitions) (vec_items u.definitions) ds d n h.named pushed refl;
          lined = lined (vec_items t.definitions) (vec_items u.definitions) ds d n h.lined pushed refl;
        },
  )

  gate_said : (k : Kind) (os : List (List ℕ)) → Covered names os → vec_items u.pins ≡ vec_items t.pins ++ map (place_of names) os → vec_items u.nets ≡ vec_items t.nets ++ Gate k (vec_len t.pins) (length os) ∷ [] → u.inputs ≡ t.inputs → length os ≤ 16 → Lays names line (gate n (word k) os) t u
  gate_said k os covered wired e i few = (
    covered,
    λ ds g.
        let d : Declaration = record { line = line; says = gate n (word k) os } in
        let Q : List Net → List ℕ → Type 0 = λ ns ps. Tabled names (ds ++ d ∷ []) ns ps in
        let laid = tabled_gate names ds d (vec_items t.nets) (vec_items t.pins) g.tabled n k os refl few covered in
        let table : vec_items u.nets ≡ vec_items t.nets ++ Gate k (length (vec_items t.pins)) (length os) ∷ [] = e ∙ ap (λ (x : ℕ). vec_items t.nets ++ Gate k x (length os) ∷ []) t.pins.ok.0 in
        record {
          tabled = subst (λ (ns : List Net). Q ns (vec_items u.pins)) (sym table) (subst (Q (vec_items t.nets ++ Gate k (length (vec_items t.pins)) (length os) ∷ [])) (sym wired) laid);
          counted = omega (arith, i, g.counted, inputs_push ds line (gate n (word k) os));
          named = named (vec_items t.definitions) (vec_items u.definitions) ds d n g.named pushed refl;
          lined = lined (vec_items t.definitions) (vec_items u.definitions) ds d n g.lined pushed refl;
        },
  )

output_said : (names : List (List ℕ)) (t : Tables) (line : ℕ) (n : List ℕ) → Lays names line (output n) t t
output_said names t line n = (
  no_names names,
  λ ds h. record {
    tabled = tabled_output names ds (record { line = line; says = output n }) (vec_items t.nets) (vec_items t.pins) h.tabled n refl;
    counted = omega (arith, h.counted, inputs_push ds line (output n));
    named = h.named ∙ sym (gathered_push net_of ds (record { line = line; says = output n }) ∙ append-nil (nets ds));
    lined = h.lined ∙ sym (lines_push ds (record { line = line; says = output n }) ∙ append-nil (net_lines ds));
  },
)

-- the same of a declaration in the text
module _ (names : List (List ℕ)) (t u : Tables) (d : code.Declaration) (n : Name) where
  lays : (r : Statement) → said d.says ≡ r → Lays names d.line r t u → LaysOne names d t u (Ok tt)
  lays r e h = subst (λ x. Lays names d.line x t u) (sym e) h

  pub lays_input : d.says ≡ statement.Input n → vec_items u.definitions ≡ vec_items t.definitions ++ record { name = record { items = n.bytes.now }; line = d.line } ∷ [] → vec_items u.nets ≡ vec_items t.nets ++ Input t.inputs ∷ [] → u.pins ≡ t.pins → u.inputs ≡ t.inputs + 1 → LaysOne names d t u (Ok tt)
  lays_input q m e p i = lays (input n.bytes.now) (ap said q) (input_said names t u d.line n.bytes.now m e p i)

  pub lays_gate : (k : Kind) (c : Cursor) → d.says ≡ statement.Gate n k c → vec_items u.definitions ≡ vec_items t.definitions ++ record { name = record { items = n.bytes.now }; line = d.line } ∷ [] → Covered names (names_left c) → vec_items u.pins ≡ vec_items t.pins ++ map (place_of names) (names_left c) →
      vec_items u.nets ≡ vec_items t.nets ++ Gate k (vec_len t.pins) (length (names_left c)) ∷ [] → u.inputs ≡ t.inputs → length (pins_of (said d.says)) ≤ 16 → LaysOne names d t u (Ok tt)
  lays_gate k c q m covered wired e i few =
      lays (gate n.bytes.now (word k) (names_left c)) (ap said q) (gate_said names t u d.line n.bytes.now m k (names_left c) covered wired e i (subst (λ x. length (pins_of x) ≤ 16) (ap said q) few))

pub lays_output : (names : List (List ℕ)) (t : Tables) (d : code.Declaration) (n : Name) → d.says ≡ statement.Output n → LaysOne names d t t (Ok tt)
lays_output names t d n q = lays names t t d n (output n.bytes.now) (ap said q) (output_said names t d.line n.bytes.now)
