-- From what a walk over the lines finds to the refusal of the whole, or to none.
use Rattle.std.proofs.Common.{◌≡◌, ℕ, ◌<◌, ◌≤◌, ◌⊎◌, List, [], length, get_or, take, refl, ap, ◌∙◌, inl, inr, arith}
use Rattle.std.specs.List.{ContainsAt}
use Rattle.std.proofs.lemmas.List.{length-take-le, get_or-take, get_or_default}
use Rattle.std.proofs.lemmas.Bool.{cases_lt, cases_order}
use Rattle.grammar.specs.Grammar.{Statement}
use Rattle.grammar.specs.Rules.{Declaration, Among, gathered, pins_of, output_of, nets, inputs, outputs, pins}
use Rattle.circuit.specs.Circles.{DependsOnCircle, CircleFree, FirstDependent}
use Rattle.elaborate.specs.Elaborate.{cells_of}
use Rattle.elaborate.specs.Whole.{Rising, Undefined, net_lines, BreaksWhole, undefined_operand, undefined_output, no_input, no_output, needs_circle, RefusedWhole, AcceptedWhole}
use Rattle.elaborate.proofs.Gathered.{gathered_into}
use Rattle.elaborate.proofs.Growth.{length-cells}
use Rattle.elaborate.proofs.NetLines.{length-lines, lines_rise}

-- every name of the list is defined
abbrev pub AllDefined : List Declaration → List (List ℕ) → Type 0
AllDefined ds ns = (n : List ℕ) → Among ns n → Among (nets ds) n

module _ (ds : List Declaration) where
  -- a declaration of this line has a name, among those that f takes, that no line defines
  abbrev Misses : (Statement → List (List ℕ)) → ℕ → Type 0
  Misses f l = (d : Declaration) × (n : List ℕ) × ContainsAt ds d × Among (f d.says) n × Undefined ds n × (d.line ≡ l)

  at_10 : {n l : ℕ} → BreaksWhole ds n l → n ≡ 10 → Misses pins_of l
  at_10 (undefined_operand d n h a u) e = (d, n, h, a, u, refl)
  at_10 (undefined_output d n h a u) e = absurd (omega arith)
  at_10 (no_input h) e = absurd (omega arith)
  at_10 (no_output h) e = absurd (omega arith)
  at_10 (needs_circle k h c) e = absurd (omega arith)

  at_11 : {n l : ℕ} → BreaksWhole ds n l → n ≡ 11 → Misses output_of l
  at_11 (undefined_operand d n h a u) e = absurd (omega arith)
  at_11 (undefined_output d n h a u) e = (d, n, h, a, u, refl)
  at_11 (no_input h) e = absurd (omega arith)
  at_11 (no_output h) e = absurd (omega arith)
  at_11 (needs_circle k h c) e = absurd (omega arith)

  at_12 : {n l : ℕ} → BreaksWhole ds n l → n ≡ 12 → (inputs ds ≡ []) ⊎ (outputs ds ≡ [])
  at_12 (undefined_operand d n h a u) e = absurd (omega arith)
  at_12 (undefined_output d n h a u) e = absurd (omega arith)
  at_12 (no_input h) e = inl h
  at_12 (no_output h) e = inr h
  at_12 (needs_circle k h c) e = absurd (omega arith)

  at_13 : {n l : ℕ} → BreaksWhole ds n l → n ≡ 13 → (k : ℕ) × (k < length (nets ds)) × DependsOnCircle (cells_of ds) k × (get_or (net_lines ds) k 0 ≡ l)
  at_13 (undefined_operand d n h a u) e = absurd (omega arith)
  at_13 (undefined_output d n h a u) e = absurd (omega arith)
  at_13 (no_input h) e = absurd (omega arith)
  at_13 (no_output h) e = absurd (omega arith)
  at_13 (needs_circle k h c) e = (k, h, c, refl)

  from_10_to_13 : {n l : ℕ} → BreaksWhole ds n l → (10 ≤ n) × (n ≤ 13)
  from_10_to_13 (undefined_operand d n h a u) = (omega arith, omega arith)
  from_10_to_13 (undefined_output d n h a u) = (omega arith, omega arith)
  from_10_to_13 (no_input h) = (omega arith, omega arith)
  from_10_to_13 (no_output h) = (omega arith, omega arith)
  from_10_to_13 (needs_circle k h c) = (omega arith, omega arith)

  none_missing : (f : Statement → List (List ℕ)) → AllDefined ds (gathered f ds) → (l : ℕ) → Misses f l → ⊥
  none_missing f all l (d, n, h, a, u, e) = u (all n (gathered_into f ds d n h a))

  -- nothing is missing on the lines before the first where it is
  first_missing : (f : Statement → List (List ℕ)) → Rising ds → (i : ℕ) (d : Declaration) → i < length ds → get_or ds i d ≡ d → AllDefined ds (gathered f (take i ds)) → (l : ℕ) → l < d.line → Misses f l → ⊥
  first_missing f rising i d h is all l low (c, n, (j, g, e), a, u, same) = elim (cases_order j i) [
    | inl k ↦ (
        let p : (get_or ds j d).line ≡ (get_or ds i d).line = ap (λ (x : ℕ). (get_or ds x d).line) k in
        omega (arith, p, ap (λ (x : Declaration). x.line) is, ap (λ (x : Declaration). x.line) (e d)))
    | inr (inl k) ↦ (
        let size = length-take-le i ds (omega arith) in
        u (all n (gathered_into f (take i ds) c n (j, omega (arith, size), λ x. get_or-take i ds j x k ∙ e x) a)))
    | inr (inr k) ↦ omega (arith, rising i j d d k g, ap (λ (x : Declaration). x.line) is, ap (λ (x : Declaration). x.line) (e d))
  ]

  under_10 : (m l : ℕ) → m < 10 → BreaksWhole ds m l → ⊥
  under_10 m l h b = omega (arith, h, (from_10_to_13 b).0)

  -- Declaration i is the first with an operand that no line defines.
  pub refused_operand : Rising ds → (i : ℕ) (d : Declaration) (n : List ℕ) → i < length ds → get_or ds i d ≡ d → Among (pins_of d.says) n → Undefined ds n → AllDefined ds (pins (take i ds)) → RefusedWhole ds 10 d.line
  refused_operand rising i d n h is a u all = record {
    broken = undefined_operand d n (i, h, λ x. get_or_default ds i x d h ∙ is) a u;
    smallest = under_10;
    first = λ l low b. first_missing pins_of rising i d h is all l low (at_10 b refl);
  }

  module _ (operands : AllDefined ds (pins ds)) where
    under_11 : (m l : ℕ) → m < 11 → BreaksWhole ds m l → ⊥
    under_11 m l h b = elim (cases_lt m 10) [
      | inl g ↦ under_10 m l g b
      | inr g ↦ none_missing pins_of operands l (at_10 b (omega arith))
    ]

    -- All operands are defined, and declaration i is the first with an output that no line defines.
    pub refused_output : Rising ds → (i : ℕ) (d : Declaration) (n : List ℕ) → i < length ds → get_or ds i d ≡ d → Among (output_of d.says) n → Undefined ds n → AllDefined ds (outputs (take i ds)) → RefusedWhole ds 11 d.line
    refused_output rising i d n h is a u all = record {
      broken = undefined_output d n (i, h, λ x. get_or_default ds i x d h ∙ is) a u;
      smallest = under_11;
      first = λ l low b. first_missing output_of rising i d h is all l low (at_11 b refl);
    }

    module _ (listed : AllDefined ds (outputs ds)) where
      under_12 : (m l : ℕ) → m < 12 → BreaksWhole ds m l → ⊥
      under_12 m l h b = elim (cases_lt m 11) [
        | inl g ↦ under_11 m l g b
        | inr g ↦ none_missing output_of listed l (at_11 b (omega arith))
      ]

      -- All names are defined, and there is no input or no output.
      pub refused_none : (inputs ds ≡ []) ⊎ (outputs ds ≡ []) → RefusedWhole ds 12 0
      refused_none e = record { broken = broken e; smallest = under_12; first = λ l low b. omega (arith, low) }
        where
          broken : (inputs ds ≡ []) ⊎ (outputs ds ≡ []) → BreaksWhole ds 12 0
          broken (inl h) = no_input h
          broken (inr h) = no_output h

      module _ (some_input : 0 < length (inputs ds)) (some_output : 0 < length (outputs ds)) where
        under_13 : (m l : ℕ) → m < 13 → BreaksWhole ds m l → ⊥
        under_13 m l h b = elim (cases_lt m 12) [
          | inl g ↦ under_12 m l g b
          | inr g ↦ elim (at_12 b (omega arith)) [
            | inl e ↦ omega (arith, some_input, ap length e)
            | inr e ↦ omega (arith, some_output, ap length e)
          ]
        ]

        -- Nothing else is wrong, and net k is the first that depends on a circle.
        pub refused_circle : Rising ds → (k : ℕ) → FirstDependent (cells_of ds) k → RefusedWhole ds 13 (get_or (net_lines ds) k 0)
        refused_circle rising k (h, on, before) = record {
          broken = needs_circle k (omega (arith, h, length-cells (nets ds) 0 ds)) on;
          smallest = under_13;
          first = λ l low b.
              let (j, g, c, e) = at_13 b refl in
              elim (cases_lt j k) [
                | inl i ↦ before j i c
                | inr i ↦ omega (arith, low, e, lines_rise ds rising k j i (omega (arith, g, length-lines ds)))
              ];
        }

        -- Nothing is wrong.
        pub accepted_whole : CircleFree (cells_of ds) → AcceptedWhole ds
        accepted_whole free n l b = elim (cases_lt n 13) [
          | inl g ↦ under_13 n l g b
          | inr g ↦ (let (j, h, c, e) = at_13 b (omega (arith, g, (from_10_to_13 b).1)) in free j c)
        ]
