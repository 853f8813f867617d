-- A line spells at most one statement, and a text is read in one way.
use Rattle.std.proofs.Common.{◌≡◌, ℕ, suc, List, [], ◌∷◌, ◌++◌, refl, ap, subst, ⊎_elim, arith}
use Rattle.std.proofs.lemmas.Bool.{cases_lt}
use Rattle.model.specs.Refusals.{refusal}
use Rattle.grammar.specs.Grammar.{Statement, Spells, SaysNothing}
use Rattle.grammar.specs.Rules.{Declaration, Breaks, no_statement, long_name, unknown_kind, operand_count, defined_before, listed_before, beyond_limit}
use Rattle.grammar.specs.Reading.{Refused, Answer, refused, ReadsFrom, at_end, silent, declares, refuses, too_long, in_lines, OneStatement, OneReading}
use Rattle.grammar.proofs.Meaning.{spelled, silenced}

pub same_statement : (line : List ℕ) (s t : Statement) → Spells line s → Spells line t → s ≡ t
same_statement line s t h k = let e = spelled line s h in let f = spelled line t k in cc

pub not_both : (line : List ℕ) (s : Statement) → Spells line s → SaysNothing line → ⊥
not_both line s h k =
    let e = spelled line s h in let f = silenced line k in let z : ◌≡◌ {A = ℕ} 0 1 = cc in omega arith

pub one_statement : OneStatement
one_statement = (same_statement, not_both)

-- a line that says nothing breaks no rule
pub silent_clean : {ds : List Declaration} {k : ℕ} {line : List ℕ} {n : ℕ} → SaysNothing line → Breaks ds k line n → ⊥
silent_clean h (no_statement b) = b.0 h
silent_clean h (long_name s e b) = not_both _ s e h
silent_clean h (unknown_kind s e b) = not_both _ s e h
silent_clean h (operand_count s e b) = not_both _ s e h
silent_clean h (defined_before s e b) = not_both _ s e h
silent_clean h (listed_before s e b) = not_both _ s e h
silent_clean h (beyond_limit s e b) = not_both _ s e h

one_refusal : {ds : List Declaration} {k : ℕ} {line : List ℕ} {n m : ℕ} → Refused ds k line n → Refused ds k line m → n ≡ m
one_refusal {n = n} {m = m} r q =
    ⊎_elim (λ h. absurd (q.smallest n h r.broken)) (λ h. ⊎_elim (λ g. absurd (r.smallest m g q.broken)) (λ g. omega arith) (cases_lt m n)) (cases_lt n m)

one_from : {k : ℕ} {ds : List Declaration} {ls : List (List ℕ)} {a b : Answer} {es fs : List Declaration} → ReadsFrom k ds ls a es → ReadsFrom k ds ls b fs → (a ≡ b) × (es ≡ fs)
one_from (at_end k ds) (at_end j cs) = (refl, refl)
one_from (silent k ds l ls a es h r) (silent j cs m ms b fs g q) = one_from r q
one_from (silent k ds l ls a es h r) (declares j cs m ms s b fs g q) = absurd (not_both l s g.spelled h)
one_from (silent k ds l ls a es h r) (refuses j cs m ms n g) = absurd (silent_clean h g.broken)
one_from (declares k ds l ls s a es h r) (silent j cs m ms b fs g q) = absurd (not_both l s h.spelled g)
one_from (declares k ds l ls s a es h r) (declares j cs m ms t b fs g q) =
    let P : Statement → Type 0 = λ u. ReadsFrom (suc k) (ds ++ record { line = k; says = u } ∷ []) ls b fs in one_from r (subst P (same_statement l t s g.spelled h.spelled) q)
one_from (declares k ds l ls s a es h r) (refuses j cs m ms n g) = absurd (h.clean n g.broken)
one_from (refuses k ds l ls n h) (silent j cs m ms b fs g q) = absurd (silent_clean g h.broken)
one_from (refuses k ds l ls n h) (declares j cs m ms s b fs g q) = absurd (g.clean n h.broken)
one_from (refuses k ds l ls n h) (refuses j cs m ms i g) = (ap (λ (i : ℕ). refused (refusal i k)) (one_refusal h g), refl)

pub one_reading : OneReading
one_reading text ds a b es fs (too_long h) (too_long g) = (refl, refl)
one_reading text ds a b es fs (too_long h) (in_lines c gs g q) = absurd (omega (arith, h, g))
one_reading text ds a b es fs (in_lines c gs h r) (too_long g) = absurd (omega (arith, h, g))
one_reading text ds a b es fs (in_lines c gs h r) (in_lines d hs g q) = one_from r q
