-- Names gathered from the declarations.
use Rattle.std.proofs.Common.{◌≡◌, ℕ, zero, suc, ◌+◌, ◌-◌, ◌<◌, List, [], ◌∷◌, ◌++◌, length, get_or, sym, refl, ap, ◌∙◌, inl, inr, arith}
use Rattle.std.specs.List.{ContainsAt}
use Rattle.std.proofs.lemmas.List.{append-nil, append_assoc, length-append, get_or_append_left, get_or-append-add, get_or-append_right}
use Rattle.std.proofs.lemmas.Bool.{cases_lt}
use Rattle.grammar.specs.Grammar.{Statement}
use Rattle.grammar.specs.Rules.{Declaration, Among, gathered, net_of, nets}

pub gathered_append : (f : Statement → List (List ℕ)) (ds es : List Declaration) → gathered f (ds ++ es) ≡ gathered f ds ++ gathered f es
gathered_append f [] es = refl
gathered_append f (d ∷ ds) es =
    ap (λ (ns : List (List ℕ)). f d.says ++ ns) (gathered_append f ds es) ∙ sym (append_assoc (f d.says) (gathered f ds) (gathered f es))

pub gathered_push : (f : Statement → List (List ℕ)) (ds : List Declaration) (d : Declaration) → gathered f (ds ++ d ∷ []) ≡ gathered f ds ++ f d.says
gathered_push f ds d = gathered_append f ds (d ∷ []) ∙ ap (λ (ns : List (List ℕ)). gathered f ds ++ ns) (append-nil (f d.says))

pub nets_push : (ds : List Declaration) (d : Declaration) → nets (ds ++ d ∷ []) ≡ nets ds ++ net_of d.says
nets_push ds d = gathered_push net_of ds d

-- what is gathered comes from a declaration
pub gathered_from : (f : Statement → List (List ℕ)) (ds : List Declaration) (n : List ℕ) → Among (gathered f ds) n → (d : Declaration) × ContainsAt ds d × Among (f d.says) n
gathered_from f [] n (i, h, e) = absurd (omega arith)
gathered_from f (d ∷ ds) n (i, h, e) = elim (cases_lt i (length (f d.says))) [
  | inl g ↦ (d, (0, omega arith, λ _. refl), (i, g, sym (get_or_append_left (f d.says) (gathered f ds) [] i g) ∙ e))
  | inr g ↦ (
      let below : i - length (f d.says) < length (gathered f ds) = omega (arith, length-append (f d.says) (gathered f ds)) in
      let (c, (j, k, is), a) = gathered_from f ds n (i - length (f d.says), below, sym (get_or-append_right (f d.says) (gathered f ds) (length (f d.says)) i [] refl g) ∙ e) in
      (c, (suc j, omega arith, is), a))
]

-- what a declaration has is gathered
pub gathered_into : (f : Statement → List (List ℕ)) (ds : List Declaration) (d : Declaration) (n : List ℕ) → ContainsAt ds d → Among (f d.says) n → Among (gathered f ds) n
gathered_into f [] d n (j, h, e) a = absurd (omega arith)
gathered_into f (c ∷ ds) d n (zero, h, e) (i, g, is) =
    let same = ap (λ (x : Declaration). f x.says) (e c) in
    let below : i < length (f c.says) = omega (arith, ap length same) in
    (i, omega (arith, length-append (f c.says) (gathered f ds)), get_or_append_left (f c.says) (gathered f ds) [] i below ∙ ap (λ (xs : List (List ℕ)). get_or xs i []) same ∙ is)
gathered_into f (c ∷ ds) d n (suc j, h, e) a =
    let (i, g, is) = gathered_into f ds d n (j, omega arith, e) a in
    (length (f c.says) + i, omega (arith, length-append (f c.says) (gathered f ds)), get_or-append-add (f c.says) (gathered f ds) i [] ∙ is)
