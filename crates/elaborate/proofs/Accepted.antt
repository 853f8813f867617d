-- What holds of declarations that break no rule.
use Rattle.std.proofs.Common.{◌≡◌, ℕ, ◌<◌, List, [], length, get_or, sym, refl, ap, subst, inl, inr, arith}
use Rattle.std.proofs.lemmas.List.{length-map, get_or-map, get_or_past}
use Rattle.std.proofs.lemmas.Bool.{cases_lt}
use Rattle.grammar.specs.Rules.{Declaration, Among, pins_of, output_of, nets, inputs, outputs, pins}
use Rattle.circuit.specs.Circuit.{Cell, input, ReadsIn, cell_in, operands_of}
use Rattle.circuit.specs.Circles.{LeadsBack, step, further, CircleFree, Sorted, Ordered}
use Rattle.elaborate.specs.Elaborate.{place_of, cells_of, netlist_of}
use Rattle.elaborate.specs.Whole.{undefined_operand, undefined_output, needs_circle, AcceptedWhole}
use Rattle.elaborate.specs.Values.{WellDeclared}
use Rattle.elaborate.proofs.Places.{place_below, among_place}
use Rattle.elaborate.proofs.Gathered.{gathered_from}
use Rattle.elaborate.proofs.Growth.{length-cells}
use Rattle.elaborate.proofs.Cells.{Defined, by_input, by_gate, net_defined}
use Rattle.elaborate.proofs.Reading.{LineByLine}

-- whether a name stands in a list is decided
pub among_unless : (ns : List (List ℕ)) (n : List ℕ) → ((Among ns n → ⊥) → ⊥) → Among ns n
among_unless ns n f = elim (cases_lt (place_of ns n) (length ns)) [
  | inl h ↦ among_place ns n h
  | inr h ↦ absurd (f (λ a. omega (arith, h, place_below ns n a)))
]

module _ (ds : List Declaration) (ok : AcceptedWhole ds) where
  pub operands_defined_lem : (n : List ℕ) → Among (pins ds) n → Among (nets ds) n
  operands_defined_lem n a =
      let (d, has, own) = gathered_from pins_of ds n a in
      among_unless (nets ds) n (λ un. ok 10 d.line (undefined_operand d n has own un))

  pub outputs_defined : (n : List ℕ) → Among (outputs ds) n → Among (nets ds) n
  outputs_defined n a =
      let (d, has, own) = gathered_from output_of ds n a in
      among_unless (nets ds) n (λ un. ok 11 d.line (undefined_output d n has own un))

  pub circle_free : CircleFree (cells_of ds)
  circle_free k on = ok 13 _ (needs_circle k (starts_below on.1) on)
    where
      reads_below : {k j : ℕ} → ReadsIn (cells_of ds) k j → k < length (nets ds)
      reads_below {k = k} (p, h, e) = elim (cases_lt k (length (nets ds))) [
        | inl b ↦ b
        | inr b ↦ (
            let past = get_or_past (cells_of ds) k (input 0) (omega (arith, length-cells (nets ds) 0 ds)) in
            absurd (omega (arith, h, ap (λ (c : Cell). length (operands_of c)) past)))
      ]

      starts_below : {k j : ℕ} → LeadsBack (cells_of ds) k j → k < length (nets ds)
      starts_below (step r) = reads_below r
      starts_below (further l r) = starts_below l

-- an order of the cells orders the netlist
pub sorted_ordered : (ds : List Declaration) (order : List ℕ) → Sorted (cells_of ds) order → ((n : List ℕ) → Among (outputs ds) n → Among (nets ds) n) → Ordered (netlist_of ds)
sorted_ordered ds order s outs = record {
  place = s.place;
  within = λ k h. omega (arith, (s.placed k h).0, s.size);
  earlier = λ k j h r. (behind k j h r).1;
  read_net = λ k j h r. (behind k j h r).0;
  output_net = λ k (o, h, e).
      let g : o < length (outputs ds) = omega (arith, length-map (outputs ds) (place_of (nets ds))) in
      let is = get_or-map (place_of (nets ds)) (outputs ds) o [] 0 g in
      omega (arith, is, e, place_below (nets ds) (get_or (outputs ds) o []) (outs _ (o, g, refl)), length-cells (nets ds) 0 ds);
  input_below = λ k i h e. input_below_lem k i (net_defined (nets ds) 0 ds k (omega (arith, h, length-cells (nets ds) 0 ds))) e;
}
  where
    behind : (k j : ℕ) → k < length (cells_of ds) → ReadsIn (cells_of ds) k j → (j < length (cells_of ds)) × (s.place j < s.place k)
    behind k j h r =
        let (b, e) = s.placed k h in
        let P : ℕ → Type 0 = λ i. ReadsIn (cells_of ds) i j in
        s.behind (s.place k) j b (subst P (sym e) r)

    input_below_lem : (k i : ℕ) → Defined (nets ds) 0 ds k → cell_in (cells_of ds) k ≡ input i → i < length (inputs ds)
    input_below_lem k i (by_input q t h e f is) e' = let z : t ≡ i = cc in omega arith
    input_below_lem k i (by_gate l n kw os has f is) e' = let z : ◌≡◌ {A = ℕ} 0 1 = cc in absurd (omega arith)

-- Declarations that were read line by line, break no rule of the whole and are ordered are well declared.
pub well_declared : (j : ℕ) (ds : List Declaration) → LineByLine j ds → AcceptedWhole ds → Ordered (netlist_of ds) → WellDeclared ds
well_declared j ds r ok o = record { defined_once = r.once; operands_defined = operands_defined_lem ds ok; kinds_known = r.known; ordered = o }
