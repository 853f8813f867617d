-- Declarations are refused in at most one way, and not where they are accepted.
use Rattle.std.proofs.Common.{◌≡◌, ℕ, List, sym, subst, inl, inr}
use Rattle.std.proofs.lemmas.Bool.{cases_order}
use Rattle.grammar.specs.Rules.{Declaration}
use Rattle.elaborate.specs.Whole.{RefusedWhole, AcceptedWhole, OneAnswer}

same_number : {ds : List Declaration} {n m line l : ℕ} → RefusedWhole ds n line → RefusedWhole ds m l → n ≡ m
same_number {n = n} {m = m} r q = elim (cases_order n m) [
  | inl e ↦ e
  | inr (inl h) ↦ absurd (q.smallest n _ h r.broken)
  | inr (inr h) ↦ absurd (r.smallest m _ h q.broken)
]

same_line : {ds : List Declaration} {n line l : ℕ} → RefusedWhole ds n line → RefusedWhole ds n l → line ≡ l
same_line {line = line} {l = l} r q = elim (cases_order line l) [
  | inl e ↦ e
  | inr (inl h) ↦ absurd (q.first line h r.broken)
  | inr (inr h) ↦ absurd (r.first l h q.broken)
]

pub one_refusal : {ds : List Declaration} {n m line l : ℕ} → RefusedWhole ds n line → RefusedWhole ds m l → (n ≡ m) × (line ≡ l)
one_refusal {ds = ds} {l = l} r q = let e = same_number r q in
    let P : ℕ → Type 0 = λ k. RefusedWhole ds k l in (e, same_line r (subst P (sym e) q))

pub not_accepted : {ds : List Declaration} {n line : ℕ} → RefusedWhole ds n line → AcceptedWhole ds → ⊥
not_accepted {n = n} {line = line} r a = a n line r.broken

pub one_answer : OneAnswer
one_answer = (λ ds n m line l r q. one_refusal r q, λ ds n line r a. not_accepted r a)
