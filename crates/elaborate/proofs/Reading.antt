-- What holds of declarations because they were read line by line.
use Rattle.std.proofs.Common.{ℕ, suc, ◌<◌, List, [], ◌∷◌, ◌++◌, length, get_or, sym, ap, subst, inl, inr, arith}
use Rattle.std.specs.List.{ContainsAt}
use Rattle.std.proofs.lemmas.List.{append-nil, length_push, get_or_push, get_or_append_left}
use Rattle.std.proofs.ByRecursion.{has_get_or, has_push_cases}
use Rattle.std.proofs.lemmas.Bool.{cases_lt}
use Rattle.grammar.specs.Grammar.{Statement, input, output, gate}
use Rattle.grammar.specs.Rules.{Declaration, UnknownKind, Redefines, net_of, nets, unknown_kind, defined_before}
use Rattle.grammar.specs.Reading.{Accepted, Answer, ReadsFrom, at_end, silent, declares, refuses, Reads, too_long, in_lines}
use Rattle.grammar.specs.Proper.{Distinct}
use Rattle.grammar.proofs.Properly.{distinct_push}
use Rattle.elaborate.specs.Whole.{Rising}
use Rattle.elaborate.proofs.Gathered.{nets_push}

-- declarations of the lines before line k
pub record LineByLine (k : ℕ) (ds : List Declaration) : Type 0 where
  pub once : Distinct (nets ds)
  pub known : (d : Declaration) → ContainsAt ds d → UnknownKind d.says → ⊥
  pub rising : Rising ds
  pub before : (d : Declaration) → ContainsAt ds d → d.line < k

pub none_yet : (k : ℕ) → LineByLine k []
none_yet k = record {
  once = λ i j h g e. absurd (omega arith);
  known = λ d (i, h, e) u. omega arith;
  rising = λ i j d e h g. absurd (omega arith);
  before = λ d (i, h, e). absurd (omega arith);
}

once_more : (ds : List Declaration) (s : Statement) → Distinct (nets ds) → (Redefines ds s → ⊥) → Distinct (nets ds ++ net_of s)
once_more ds (input n) d new = distinct_push (nets ds) n d new
once_more ds (output n) d new = subst Distinct (sym (append-nil (nets ds))) d
once_more ds (gate n k os) d new = distinct_push (nets ds) n d new

-- one line more
pub more_lines : (k : ℕ) (l : List ℕ) (ds : List Declaration) (s : Statement) → Accepted ds k l s → LineByLine k ds → LineByLine (suc k) (ds ++ record { line = k; says = s } ∷ [])
more_lines k l ds s a r = let d : Declaration = record { line = k; says = s } in record {
  once = subst Distinct (sym (nets_push ds d)) (once_more ds s r.once (λ h. a.clean 7 (defined_before s a.spelled h)));
  known = λ e h u. elim (has_push_cases ds d e h) [
    | inl g ↦ r.known e g u
    | inr f ↦ a.clean 5 (unknown_kind s a.spelled (subst (λ (c : Declaration). UnknownKind c.says) (sym f) u))
  ];
  rising = λ i j x y h g. elim (cases_lt j (length ds)) [
    | inl b ↦ (
        let p = ap (λ (c : Declaration). c.line) (get_or_append_left ds (d ∷ []) x i (omega arith)) in
        let q = ap (λ (c : Declaration). c.line) (get_or_append_left ds (d ∷ []) y j b) in
        omega (arith, p, q, r.rising i j x y h b))
    | inr b ↦ (
        let in' : i < length ds = omega (arith, length_push ds d) in
        let p = ap (λ (c : Declaration). c.line) (get_or_append_left ds (d ∷ []) x i in') in
        let q = ap (λ (c : Declaration). c.line) (get_or_push ds d y j (omega (arith, length_push ds d))) in
        omega (arith, p, q, r.before (get_or ds i x) (has_get_or ds i x in')))
  ];
  before = λ e h. elim (has_push_cases ds d e h) [
    | inl g ↦ omega (arith, r.before e g)
    | inr f ↦ omega (arith, ap (λ (c : Declaration). c.line) f)
  ];
}

later_line : {k : ℕ} {ds : List Declaration} → LineByLine k ds → LineByLine (suc k) ds
later_line r = record { once = r.once; known = r.known; rising = r.rising; before = λ d h. omega (arith, r.before d h) }

reads_lines : {k : ℕ} {ds : List Declaration} {ls : List (List ℕ)} {a : Answer} {es : List Declaration} → ReadsFrom k ds ls a es → LineByLine k ds → (j : ℕ) × LineByLine j es
reads_lines (at_end k ds) r = (k, r)
reads_lines (silent k ds l ls a es h q) r = reads_lines q (later_line r)
reads_lines (declares k ds l ls s a es h q) r = reads_lines q (more_lines k l ds s h r)
reads_lines (refuses k ds l ls n h) r = (k, r)

-- whatever a text's answer is, its declarations stand line by line
pub text_lines : {text : List ℕ} {a : Answer} {ds : List Declaration} → Reads text [] a ds → (j : ℕ) × LineByLine j ds
text_lines (too_long h) = (0, none_yet 0)
text_lines (in_lines a ds h q) = reads_lines q (none_yet 1)
