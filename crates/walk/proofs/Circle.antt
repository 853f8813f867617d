-- An order and circles exclude one another.
use Rattle.std.proofs.Common.{◌≡◌, ℕ, ◌<◌, List, length, sym, refl, ap, subst, ⊎_elim, arith}
use Rattle.std.proofs.lemmas.List.{get_or_past}
use Rattle.std.proofs.lemmas.Bool.{cases_lt}
use Rattle.circuit.specs.Circuit.{Cell, operands_of, operands_at, ReadsIn, cell_in, input, gate}
use Rattle.model.specs.declared.kind.Kind.{Kind}
use Rattle.circuit.specs.Circles.{LeadsBack, step, further, DependsOnCircle, CircleFree, Sorted}

-- what reads is a net
pub reader_net : (cells : List Cell) (k j : ℕ) → ReadsIn cells k j → k < length cells
reader_net cells k j reads = ⊎_elim (λ lt. lt) (λ past.
    let none : length (operands_at cells k) ≡ 0 = ap (λ z. length (operands_of z)) (get_or_past cells k (input 0) past) in
    absurd (omega (arith, reads.1))) (cases_lt k (length cells))

pub leader_net : (cells : List Cell) (k j : ℕ) → LeadsBack cells k j → k < length cells
leader_net cells k j (step reads) = reader_net cells k j reads
leader_net cells k j (further leads reads) = leader_net cells k _ leads

module _ (cells : List Cell) (order : List ℕ) (good : Sorted cells order) where
  -- what a net reads is a net and stands before it
  pub reads_behind : (k j : ℕ) → k < length cells → ReadsIn cells k j → (j < length cells) × (good.place j < good.place k)
  reads_behind k j is reads =
      let (within, at) = good.placed k is in
      good.behind (good.place k) j within (subst (λ z. ReadsIn cells z j) (sym at) reads)

  leads_behind : (k j : ℕ) → k < length cells → LeadsBack cells k j → (j < length cells) × (good.place j < good.place k)
  leads_behind k j is (step reads) = reads_behind k j is reads
  leads_behind k j is (further {i} leads reads) =
      let before = leads_behind k i is leads in
      let last = reads_behind i j before.0 reads in
      (last.0, omega (arith, before.1, last.1))

  pub sorted_free : CircleFree cells
  sorted_free k (j, leads, circle) =
      let here = leads_behind k j (leader_net cells k j leads) leads in
      omega (arith, (leads_behind j j here.0 circle).1)

-- what depends on a circle is a gate
pub dependent_gate : (cells : List Cell) (k : ℕ) → DependsOnCircle cells k → (kind : Kind) × (js : List ℕ) × (cell_in cells k ≡ gate kind js)
dependent_gate cells k (j, leads, circle) = at (cell_in cells k) refl (first leads)
  where
    first : {j : ℕ} → LeadsBack cells k j → 0 < length (operands_at cells k)
    first (step reads) = omega (arith, reads.1)
    first (further leads reads) = first leads

    at : (cell : Cell) → cell_in cells k ≡ cell → 0 < length (operands_at cells k) → (kind : Kind) × (js : List ℕ) × (cell_in cells k ≡ gate kind js)
    at (input i) e some = let none : 0 < 0 = subst (λ z. 0 < length (operands_of z)) e some in absurd (omega arith)
    at (gate kind js) e some = (kind, js, e)
