-- What the test of a netlist's tables tells.
use Rattle.std.proofs.Common.{◌≡◌, ℕ, zero, suc, ◌+◌, ◌<◌, ◌≤◌, true, eqb, ltb, leb, List, [], ◌∷◌, ◌++◌, length, get_or, take, drop, sym, refl, ap, ◌∙◌, ap₂, arith}
use Rattle.std.proofs.lemmas.List.{length-take, length-drop, length-map, take_all}
use Rattle.std.proofs.lemmas.Bool.{eqb-true, eq-eqb, ltb-true, lt-ltb, leb-true, le-leb, and_parts, and_from}
use Rattle.model.specs.declared.kind.Kind.{Kind}
use Rattle.model.specs.declared.kind.Kind.TheVariants.{And, Nand, Or, Nor, Xor, Xnor, Not, Buff}
use Rattle.model.specs.Kinds.{takes, several_operands}
use Rattle.circuit.specs.Circuit.{pin_count}
use Rattle.circuit.specs.declared.net.Net.{Net}
use Rattle.circuit.specs.declared.net.Net.TheVariants.{Input, Gate}
use Rattle.circuit.specs.Tables.{cell_of, cells_of, Formed, FitTables, pins_follow, nets_fit, all_below, within_limits, tables_fit}

pub below_all : (n : ℕ) (ks : List ℕ) → all_below n ks ≡ true → (i : ℕ) → i < length ks → get_or ks i 0 < n
below_all n [] h i l = absurd (omega arith)
below_all n (k ∷ ks) h zero l = ltb-true k n (and_parts (ltb k n) (all_below n ks) h).0
below_all n (k ∷ ks) h (suc i) l = below_all n ks (and_parts (ltb k n) (all_below n ks) h).1 i (omega arith)

-- the pins of the nets, by their counts
pin_sum : List Net → ℕ
pin_sum [] = 0
pin_sum (Input i ∷ nets) = pin_sum nets
pin_sum (Gate kind first count ∷ nets) = count + pin_sum nets

gate_not_input : {kind : Kind} {first count i : ℕ} → Input i ≡ Gate kind first count → ⊥
gate_not_input e = let z : ◌≡◌ {A = ℕ} 0 1 = cc in omega arith

follow_end : (p q : ℕ) (nets : List Net) → pins_follow p q nets ≡ true → q ≡ p + pin_sum nets
unfolding pin_sum
follow_end p q [] h = omega (arith, eqb-true p q h)
follow_end p q (Input i ∷ nets) h = follow_end p q nets h
follow_end p q (Gate kind first count ∷ nets) h = omega (arith, follow_end (p + count) q nets (and_parts (eqb first p) (pins_follow (p + count) q nets) h).1)

follow_begins : (p q : ℕ) (nets : List Net) → pins_follow p q nets ≡ true → (k : ℕ) → k < length nets → (kind : Kind) (first count : ℕ) → get_or nets k (Input 0) ≡ Gate kind first count →
    (first ≡ p + pin_sum (take k nets)) × (first + count ≤ q)
unfolding pin_sum
follow_begins p q [] h k l kind first count e = absurd (omega arith)
follow_begins p q (Input i ∷ nets) h zero l kind first count e = absurd (gate_not_input e)
follow_begins p q (Input i ∷ nets) h (suc k) l kind first count e = follow_begins p q nets h k (omega arith) kind first count e
follow_begins p q (Gate kind₁ first₁ count₁ ∷ nets) h zero l kind first count e =
    let parts = and_parts (eqb first₁ p) (pins_follow (p + count₁) q nets) h in
    let same : first₁ ≡ first = cc in
    let many : count₁ ≡ count = cc in
    (omega (arith, eqb-true first₁ p parts.0), omega (arith, eqb-true first₁ p parts.0, follow_end (p + count₁) q nets parts.1))
follow_begins p q (Gate kind₁ first₁ count₁ ∷ nets) h (suc k) l kind first count e =
    let parts = and_parts (eqb first₁ p) (pins_follow (p + count₁) q nets) h in
    let rest = follow_begins (p + count₁) q nets parts.1 k (omega arith) kind first count e in
    (omega (arith, rest.0), rest.1)

fit_input : (n : ℕ) (nets : List Net) → nets_fit n nets ≡ true → (k i : ℕ) → k < length nets → get_or nets k (Input 0) ≡ Input i → i < n
fit_input n [] h k i l e = absurd (omega arith)
fit_input n (Input j ∷ nets) h zero i l e = let same : j ≡ i = cc in omega (arith, ltb-true j n (and_parts (ltb j n) (nets_fit n nets) h).0)
fit_input n (Input j ∷ nets) h (suc k) i l e = fit_input n nets (and_parts (ltb j n) (nets_fit n nets) h).1 k i (omega arith) e
fit_input n (Gate kind first count ∷ nets) h zero i l e = absurd (gate_not_input (sym e))
fit_input n (Gate kind first count ∷ nets) h (suc k) i l e = fit_input n nets (and_parts (takes kind count) (nets_fit n nets) h).1 k i (omega arith) e

fit_takes : (n : ℕ) (nets : List Net) → nets_fit n nets ≡ true → (k first count : ℕ) (kind : Kind) → k < length nets → get_or nets k (Input 0) ≡ Gate kind first count → takes kind count ≡ true
fit_takes n [] h k first count kind l e = absurd (omega arith)
fit_takes n (Input j ∷ nets) h zero first count kind l e = absurd (gate_not_input e)
fit_takes n (Input j ∷ nets) h (suc k) first count kind l e = fit_takes n nets (and_parts (ltb j n) (nets_fit n nets) h).1 k first count kind (omega arith) e
fit_takes n (Gate kind₁ first₁ count₁ ∷ nets) h zero first count kind l e =
    let same : kind₁ ≡ kind = cc in
    let many : count₁ ≡ count = cc in
    sym (ap₂ takes same many) ∙ (and_parts (takes kind₁ count₁) (nets_fit n nets) h).0
fit_takes n (Gate kind₁ first₁ count₁ ∷ nets) h (suc k) first count kind l e =
    fit_takes n nets (and_parts (takes kind₁ count₁) (nets_fit n nets) h).1 k first count kind (omega arith) e

several : (count : ℕ) → several_operands count ≡ true → (1 ≤ count) × (count ≤ 16)
several count h =
    let parts = and_parts (leb 2 count) (leb count 16) h in
    (omega (arith, leb-true 2 count parts.0), omega (arith, leb-true count 16 parts.1))

one : (count : ℕ) → eqb count 1 ≡ true → (1 ≤ count) × (count ≤ 16)
one count h = (omega (arith, eqb-true count 1 h), omega (arith, eqb-true count 1 h))

-- every kind takes 1 to 16 operands
pub takes_some : (kind : Kind) (count : ℕ) → takes kind count ≡ true → (1 ≤ count) × (count ≤ 16)
takes_some And count h = several count h
takes_some Nand count h = several count h
takes_some Or count h = several count h
takes_some Nor count h = several count h
takes_some Xor count h = several count h
takes_some Xnor count h = several count h
takes_some Not count h = one count h
takes_some Buff count h = one count h

module _ (inputs : ℕ) (nets : List Net) (pins outputs : List ℕ) where
  formed_at : pins_follow 0 (length pins) nets ≡ true → nets_fit inputs nets ≡ true → all_below (length nets) pins ≡ true → (k : ℕ) → k < length nets → (net : Net) → get_or nets k (Input 0) ≡ net → Formed pins (length nets) net
  formed_at follow fit below k l (Input i) e = tt
  formed_at follow fit below k l (Gate kind first count) e =
      let begins = follow_begins 0 (length pins) nets follow k l kind first count e in (
        begins.1,
        (takes_some kind count (fit_takes inputs nets fit k first count kind l e)).1,
        λ q under. below_all (length nets) pins below (first + q) (omega (arith, begins.1)),
      )

cell_pins : (pins : List ℕ) (nets : List Net) → ((k : ℕ) → k < length nets → (kind : Kind) (first count : ℕ) → get_or nets k (Input 0) ≡ Gate kind first count → first + count ≤ length pins) → (k : ℕ) → pin_count (take k (cells_of nets pins)) ≡ pin_sum (take k nets)
unfolding pin_sum
cell_pins pins nets inside zero = refl
cell_pins pins [] inside (suc k) = refl
cell_pins pins (Input i ∷ nets) inside (suc k) = omega (arith, cell_pins pins nets (λ j l. inside (suc j) (omega arith)) k)
cell_pins pins (Gate kind first count ∷ nets) inside (suc k) =
    let own : length (take count (drop first pins)) ≡ count = simp (length-take, length-drop) (omega (arith, inside 0 (omega arith) kind first count refl)) in
    omega (arith, own, cell_pins pins nets (λ j l. inside (suc j) (omega arith)) k)

module _ (inputs : ℕ) (nets : List Net) (pins outputs : List ℕ) where
  -- the test tells what the record says
  pub tables_fit_lem : tables_fit inputs nets pins outputs ≡ true → FitTables inputs nets pins outputs
  tables_fit_lem h =
      let limits = within_limits inputs (length nets) (length pins) (length outputs) in
      let (within, rest) = and_parts limits _ h in
      let (follow, rest₁) = and_parts (pins_follow 0 (length pins) nets) _ rest in
      let (fit, rest₂) = and_parts (nets_fit inputs nets) _ rest₁ in
      let (reads, sees) = and_parts (all_below (length nets) pins) _ rest₂ in
      let (few-nets, more) = and_parts (leb (length nets) 2048) _ within in
      let (few_pins_lem, more₁) = and_parts (leb (length pins) 8192) _ more in
      let (few-inputs, few-outputs) = and_parts (leb inputs 64) _ more₁ in
      let inside : (k : ℕ) → k < length nets → (kind : Kind) (first count : ℕ) → get_or nets k (Input 0) ≡ Gate kind first count → first + count ≤ length pins = λ k l kind first count e. (follow_begins 0 (length pins) nets follow k l kind first count e).1 in
      record {
        formed = λ k l. formed_at inputs nets pins outputs follow fit reads k l _ refl;
        input_below = fit_input inputs nets fit;
        takes_so_many = fit_takes inputs nets fit;
        begins = λ k first count kind l e. (follow_begins 0 (length pins) nets follow k l kind first count e).0 ∙ (let z : 0 + pin_sum (take k nets) ≡ pin_sum (take k nets) = omega arith in z) ∙ sym (cell_pins pins nets inside k);
        fills = follow_end 0 (length pins) nets follow ∙ (let z : 0 + pin_sum nets ≡ pin_sum nets = omega arith in z) ∙ sym (all_pins inside);
        output_nets = below_all (length nets) outputs sees;
        few_nets = leb-true (length nets) 2048 few-nets;
        few_pins = leb-true (length pins) 8192 few_pins_lem;
        few_inputs = leb-true inputs 64 few-inputs;
        few_outputs = leb-true (length outputs) 64 few-outputs;
      }
    where
      all_pins : ((k : ℕ) → k < length nets → (kind : Kind) (first count : ℕ) → get_or nets k (Input 0) ≡ Gate kind first count → first + count ≤ length pins) → pin_count (cells_of nets pins) ≡ pin_sum nets
      all_pins inside =
          ap pin_count (sym (take_all (length nets) (cells_of nets pins) (omega (arith, length-map nets (cell_of pins))))) ∙ cell_pins pins nets inside (length nets) ∙ ap pin_sum (take_all (length nets) nets (omega arith))

pub all_below_lem : (n : ℕ) (ks : List ℕ) → ((i : ℕ) → i < length ks → get_or ks i 0 < n) → all_below n ks ≡ true
all_below_lem n [] h = refl
all_below_lem n (k ∷ ks) h = and_from (ltb k n) (all_below n ks) (lt-ltb k n (h 0 (omega arith))) (all_below_lem n ks (λ i l. h (suc i) (omega arith)))

pub fit_nets : (n : ℕ) (nets : List Net) → ((k i : ℕ) → k < length nets → get_or nets k (Input 0) ≡ Input i → i < n) → ((k first count : ℕ) (kind : Kind) → k < length nets → get_or nets k (Input 0) ≡ Gate kind first count → takes kind count ≡ true) → nets_fit n nets ≡ true
fit_nets n [] below fit = refl
fit_nets n (Input i ∷ nets) below fit =
    and_from (ltb i n) (nets_fit n nets) (lt-ltb i n (below 0 i (omega arith) refl)) (fit_nets n nets (λ k j l. below (suc k) j (omega arith)) (λ k first count kind l. fit (suc k) first count kind (omega arith)))
fit_nets n (Gate kind first count ∷ nets) below fit =
    and_from (takes kind count) (nets_fit n nets) (fit 0 first count kind (omega arith) refl) (fit_nets n nets (λ k j l. below (suc k) j (omega arith)) (λ k f c kd l. fit (suc k) f c kd (omega arith)))

pub within_limits_lem : (inputs nets pins outputs : ℕ) → nets ≤ 2048 → pins ≤ 8192 → inputs ≤ 64 → outputs ≤ 64 → within_limits inputs nets pins outputs ≡ true
within_limits_lem inputs nets pins outputs a b c d =
    and_from (leb nets 2048) _ (le-leb nets 2048 a) (and_from (leb pins 8192) _ (le-leb pins 8192 b) (and_from (leb inputs 64) (leb outputs 64) (le-leb inputs 64 c) (le-leb outputs 64 d)))

pub fit_tables : (inputs : ℕ) (nets : List Net) (pins outputs : List ℕ) → within_limits inputs (length nets) (length pins) (length outputs) ≡ true → pins_follow 0 (length pins) nets ≡ true → nets_fit inputs nets ≡ true →
    ((i : ℕ) → i < length pins → get_or pins i 0 < length nets) → ((o : ℕ) → o < length outputs → get_or outputs o 0 < length nets) → tables_fit inputs nets pins outputs ≡ true
fit_tables inputs nets pins outputs limits follow fit reads sees =
    and_from (within_limits inputs (length nets) (length pins) (length outputs)) _ limits (and_from (pins_follow 0 (length pins) nets) _ follow (
    and_from (nets_fit inputs nets) _ fit (and_from (all_below (length nets) pins) (all_below (length nets) outputs) (all_below_lem (length nets) pins reads) (all_below_lem (length nets) outputs sees))))

-- a net more behind the others
pub follow_input : (p q : ℕ) (nets : List Net) (i : ℕ) → pins_follow p q nets ≡ true → pins_follow p q (nets ++ Input i ∷ []) ≡ true
follow_input p q [] i h = h
follow_input p q (Input j ∷ nets) i h = follow_input p q nets i h
follow_input p q (Gate kind first count ∷ nets) i h =
    let parts = and_parts (eqb first p) (pins_follow (p + count) q nets) h in
    and_from (eqb first p) _ parts.0 (follow_input (p + count) q nets i parts.1)

pub follow_gate : (p q r : ℕ) (nets : List Net) (kind : Kind) (count : ℕ) → r ≡ q + count → pins_follow p q nets ≡ true → pins_follow p r (nets ++ Gate kind q count ∷ []) ≡ true
follow_gate p q r [] kind count e h = and_from (eqb q p) (eqb (p + count) r) (eq-eqb q p (sym (eqb-true p q h))) (eq-eqb (p + count) r (omega (arith, eqb-true p q h)))
follow_gate p q r (Input j ∷ nets) kind count e h = follow_gate p q r nets kind count e h
follow_gate p q r (Gate kind₁ first₁ count₁ ∷ nets) kind count e h =
    let parts = and_parts (eqb first₁ p) (pins_follow (p + count₁) q nets) h in
    and_from (eqb first₁ p) _ parts.0 (follow_gate (p + count₁) q r nets kind count e parts.1)
