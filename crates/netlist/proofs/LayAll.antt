-- All declarations in the tables of the loader, one by one.
use Rattle.std.proofs.Common.{◌≡◌, ℕ, ◌+◌, ◌-◌, ◌<◌, ◌≤◌, false, Ok, List, [], ◌∷◌, ◌++◌, map, length, get_or, take, drop, vec_items, sym, refl, ap, ◌∙◌, subst, ⊎_elim, arith}
use Rattle.std.proofs.lemmas.List.{map-append, length-append, length-map, take_more, take-append-drop, get_or-map, get_or_append_left, get_or-append_right}
use Rattle.std.proofs.lemmas.Bool.{cases_lt}
use Rattle.bench.specs.declared.statement.Declaration as code
use Rattle.bench.specs.Statements.{said, declaration}
use Rattle.circuit.specs.Tables.{cell_of}
use Rattle.elaborate.specs.Elaborate.{place_of}
use Rattle.std.proofs.lemmas.Bool.Decides.{nat_tests}
use Rattle.std.specs.List.{AllByRecursion}
use Rattle.grammar.specs.Grammar.{Statement}
use Rattle.grammar.specs.Rules.{Declaration, gathered, nets, inputs, pins, outputs, net_of, input_of, output_of, pins_of, is_too_many}
use Rattle.elaborate.proofs.Gathered.{gathered_append, gathered_push}
use Rattle.elaborate.proofs.Growth.{length-cells}
use Rattle.netlist.specs.declared.tables.Tables.{Tables}
use Rattle.grammar.specs.Proper.{Proper}
use Rattle.netlist.proofs.Accepting.{few_pins, short_names}
use Rattle.netlist.specs.Resolved.{Covered, Uncovered}
use Rattle.netlist.specs.Laid.{LaidIn, LaysOne, FirstUndefined, Fits}

covered_append : (ns os ps : List (List ℕ)) → Covered ns os → Covered ns ps → Covered ns (os ++ ps)
covered_append ns os ps h g n (i, l, e) =
    ⊎_elim (λ a. h n (i, a, sym (get_or_append_left os ps [] i a) ∙ e)) (λ a. g n (i - length os, omega (arith, a, l, length-append os ps), sym (get_or-append_right os ps (length os) i [] refl a) ∙ e)) (cases_lt i (length os))

-- with one declaration more there are not more than with all
part_of : (f : Statement → List (List ℕ)) (ds : List Declaration) (i : ℕ) (d : Declaration) → i < length ds → length (gathered f (take i ds)) + length (f (get_or ds i d).says) ≤ length (gathered f ds)
part_of f ds i d h =
    let more = ap (gathered f) (take_more ds i d h) ∙ gathered_push f (take i ds) (get_or ds i d) in
    let all = ap (gathered f) (sym (take-append-drop (i + 1) ds)) ∙ gathered_append f (take (i + 1) ds) (drop (i + 1) ds) in
    omega (arith, ap length more, length-append (gathered f (take i ds)) (f (get_or ds i d).says), ap length all, length-append (gathered f (take (i + 1) ds)) (gathered f (drop (i + 1) ds)))

pub within_limits_lem : (ds : List Declaration) → is_too_many ds ≡ false → (length (nets ds) ≤ 2048) × (length (pins ds) ≤ 8192) × (length (inputs ds) ≤ 64) × (length (outputs ds) ≤ 64)
within_limits_lem ds h = (grind (arith, nat_tests), grind (arith, nat_tests), grind (arith, nat_tests), grind (arith, nat_tests))

fits : (ds : List Declaration) (i : ℕ) (d : Declaration) (t : Tables) → i < length ds → is_too_many ds ≡ false → AllByRecursion (λ n. length n ≤ 16) (net_of (get_or ds i d).says) → length (pins_of (get_or ds i d).says) ≤ 16 → LaidIn (nets ds) (take i ds) t → Fits t (get_or ds i d).says
fits ds i d t h w short few l =
    let limits = within_limits_lem ds w in
    let size = sym (length-map (vec_items t.nets) (cell_of (vec_items t.pins))) ∙ ap length l.tabled.cells ∙ length-cells (nets ds) 0 (take i ds) in
    record {
      nets = omega (arith, size, t.nets.ok.0, part_of net_of ds i d h, limits.0);
      pins = omega (arith, ap length l.tabled.wired, length-map (pins (take i ds)) (place_of (nets ds)), t.pins.ok.0, part_of pins_of ds i d h, limits.1);
      inputs = omega (arith, l.counted, part_of input_of ds i d h, limits.2);
      short = short;
      few = few;
    }

covered_next : (f : Statement → List (List ℕ)) (names : List (List ℕ)) (ds : List Declaration) (d : Declaration) → Covered names (gathered f ds) → Covered names (f d.says) → Covered names (gathered f (ds ++ d ∷ []))
covered_next f names ds d h g =
    subst (Covered names) (sym (gathered_push f ds d)) (covered_append names (gathered f ds) (f d.says) h g)

-- declaration i of all, as the code reads it
module _ (xs : List code.Declaration) (ds : List Declaration) (e : ds ≡ map declaration xs) (i : ℕ) (x : code.Declaration) (h : i < length xs) (is : x ≡ get_or xs i x) where
  pub inside : i < length ds
  inside = omega (arith, h, ap length e, length-map xs declaration)

  pub stands : get_or ds i (declaration x) ≡ declaration x
  stands = ap (λ (es : List Declaration). get_or es i (declaration x)) e ∙ get_or-map declaration xs i x (declaration x) h ∙ ap declaration (sym is)

  grown : take (i + 1) ds ≡ take i ds ++ declaration x ∷ []
  grown = take_more ds i (declaration x) inside ∙ ap (λ (d : Declaration). take i ds ++ d ∷ []) stands

  pub fits_next : (t : Tables) → is_too_many ds ≡ false → Proper ds → LaidIn (nets ds) (take i ds) t → Fits t (said x.says)
  fits_next t w proper l =
      let P : Declaration → Type 0 = λ d. Fits t d.says in
      subst P stands (fits ds i (declaration x) t inside w (short_names ds proper.all i (declaration x) inside) (few_pins ds proper.all i (declaration x) inside) l)

  pub next_laid : (names : List (List ℕ)) (t u : Tables) → LaidIn names (take i ds) t × Covered names (pins (take i ds)) → LaysOne names x t u (Ok tt) → LaidIn names (take (i + 1) ds) u × Covered names (pins (take (i + 1) ds))
  next_laid names t u inv one =
      let P : List Declaration → Type 0 = λ es. LaidIn names es u × Covered names (pins es) in
      subst P (sym grown) (one.1 (take i ds) inv.0, covered_next pins_of names (take i ds) (declaration x) inv.1 one.0)

  pub first_undefined : (f : Statement → List (List ℕ)) → Covered (nets ds) (gathered f (take i ds)) → Uncovered (nets ds) (f (said x.says)) → FirstUndefined f ds x.line
  first_undefined f c u =
      record {
        place = i;
        here = declaration x;
        inside = inside;
        stands = stands;
        at_line = refl;
        undefined = u;
        defined = c;
      }

  -- the outputs so far, with those of one declaration more
  pub next_listed : (names : List (List ℕ)) (os ps : List ℕ) → (os ≡ map (place_of names) (outputs (take i ds))) × Covered names (outputs (take i ds)) → Covered names (output_of (said x.says)) → ps ≡ os ++ map (place_of names) (output_of (said x.says)) →
      (ps ≡ map (place_of names) (outputs (take (i + 1) ds))) × Covered names (outputs (take (i + 1) ds))
  next_listed names os ps inv covered placed =
      let d = declaration x in
      let P : List Declaration → Type 0 = λ es. (ps ≡ map (place_of names) (outputs es)) × Covered names (outputs es) in
      subst P (sym grown) (placed ∙ ap (λ (zs : List ℕ). zs ++ map (place_of names) (output_of d.says)) inv.0 ∙ sym (map-append (place_of names) (outputs (take i ds)) (output_of d.says)) ∙ ap (map (place_of names)) (sym (gathered_push output_of (take i ds) d)), covered_next output_of names (take i ds) d inv.1 covered)

  -- there is room for the next output
  pub output_room : (names : List (List ℕ)) (os : List ℕ) → length (outputs ds) ≤ 64 → os ≡ map (place_of names) (outputs (take i ds)) → length os + length (output_of (said x.says)) ≤ 64
  output_room names os few e' =
      let here = ap (λ (d : Declaration). length (output_of d.says)) stands in
      omega (arith, part_of output_of ds i (declaration x) inside, here, few, ap length e', length-map (outputs (take i ds)) (place_of names))
