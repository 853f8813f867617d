-- Declarations that are read without a refusal are proper.
use Rattle.std.proofs.Common.{◌≡◌, ℕ, ◌<◌, ◌≤◌, Bool, true, false, ◌||◌, ltb, ◌⊎◌, List, [], ◌∷◌, ◌++◌, length, get_or, codes, sym, refl, ap, ◌∙◌, subst, inl, inr, ⊎_elim, arith}
use Rattle.std.specs.Str.{bytes_eq}
use Rattle.std.proofs.lemmas.Slice.Eq.{bytes_eq-Decides}
use Rattle.std.proofs.lemmas.List.{append-nil, append_assoc, length_push, get_or_push, get_or_append_left}
use Rattle.std.proofs.lemmas.Bool.{cases_lt, both_ways}
use Rattle.std.proofs.lemmas.Bool.Decides.{nat_tests}
use Rattle.model.specs.declared.kind.Kind.{Kind}
use Rattle.model.specs.declared.kind.Kind.TheVariants.{And, Nand, Or, Nor, Xor, Xnor, Not, Buff}
use Rattle.model.specs.Kinds.{word, takes}
use Rattle.grammar.specs.Grammar.{Statement, input, output, gate}
use Rattle.grammar.specs.Rules.{Declaration, nets, net_of, Among, LongName, UnknownKind, OperandCount, Redefines, long_name, unknown_kind, operand_count, defined_before}
use Rattle.grammar.specs.Reading.{Accepted, Answer, ReadsFrom, at_end, silent, declares, refuses, Reads, too_long, in_lines}
use Rattle.grammar.specs.Proper.{ProperStatement, AllProper, Distinct, Proper}

-- whether a word names a kind is decided
pub is_kind : (w : List ℕ) → ((kind : Kind) × (w ≡ word kind)) ⊎ ((kind : Kind) → w ≡ word kind → ⊥)
is_kind w = at (bytes_eq w (codes "AND")) (bytes_eq w (codes "NAND")) (bytes_eq w (codes "OR")) (bytes_eq w (codes "NOR")) (bytes_eq w (codes "XOR")) (bytes_eq w (codes "XNOR")) (bytes_eq w (codes "NOT")) (bytes_eq w (codes "BUFF")) refl refl refl refl refl refl refl refl
  where
    is : (k : Kind) → bytes_eq w (word k) ≡ true → w ≡ word k
    is k e = (bytes_eq-Decides w (word k)).0 e

    isnt : (k : Kind) → bytes_eq w (word k) ≡ false → w ≡ word k → ⊥
    isnt k e f = both_ways (bytes_eq w (word k)) e ((bytes_eq-Decides w (word k)).1 f)

    at : (a b c d e f g h : Bool) → bytes_eq w (codes "AND") ≡ a → bytes_eq w (codes "NAND") ≡ b → bytes_eq w (codes "OR") ≡ c → bytes_eq w (codes "NOR") ≡ d → bytes_eq w (codes "XOR") ≡ e → bytes_eq w (codes "XNOR") ≡ f → bytes_eq w (codes "NOT") ≡ g → bytes_eq w (codes "BUFF") ≡ h → ((kind : Kind) × (w ≡ word kind)) ⊎ ((kind : Kind) → w ≡ word kind → ⊥)
    at true b c d e f g h p q r s t u v x = inl (And, is And p)
    at false true c d e f g h p q r s t u v x = inl (Nand, is Nand q)
    at false false true d e f g h p q r s t u v x = inl (Or, is Or r)
    at false false false true e f g h p q r s t u v x = inl (Nor, is Nor s)
    at false false false false true f g h p q r s t u v x = inl (Xor, is Xor t)
    at false false false false false true g h p q r s t u v x = inl (Xnor, is Xnor u)
    at false false false false false false true h p q r s t u v x = inl (Not, is Not v)
    at false false false false false false false true p q r s t u v x = inl (Buff, is Buff x)
    at false false false false false false false false p q r s t u v x = inr none
      where
        none : (kind : Kind) → w ≡ word kind → ⊥
        none And = isnt And p
        none Nand = isnt Nand q
        none Or = isnt Or r
        none Nor = isnt Nor s
        none Xor = isnt Xor t
        none Xnor = isnt Xnor u
        none Not = isnt Not v
        none Buff = isnt Buff x

short : (s : Statement) (n : List ℕ) (ns : List (List ℕ)) → (LongName s → ⊥) → ((ltb 16 (length n) ≡ true) → LongName s) → length n ≤ 16
short s n ns f g = ⊎_elim (λ h. absurd (f (g (grind (arith, nat_tests))))) (λ h. h) (cases_lt 16 (length n))

first_long : (a b : Bool) → a ≡ true → (a || b) ≡ true
first_long a b e = ap (λ (x : Bool). x || b) e

pub proper_statement : (s : Statement) → (LongName s → ⊥) → (UnknownKind s → ⊥) → (OperandCount s → ⊥) → ProperStatement s
proper_statement (input n) a b c = short (input n) n [] a (λ e. first_long _ _ e)
proper_statement (output n) a b c = short (output n) n [] a (λ e. first_long _ _ e)
proper_statement (gate n k os) a b c =
    (short (gate n k os) n [] a (λ e. first_long _ _ e), ⊎_elim (λ p. (p.0, p.1, counted p.0 p.1 (takes p.0 (length os)) refl)) (λ u. absurd (b u)) (is_kind k))
  where
    counted : (kind : Kind) → k ≡ word kind → (t : Bool) → takes kind (length os) ≡ t → takes kind (length os) ≡ true
    counted kind w true e = e
    counted kind w false e = absurd (c (kind, w, e))

all_more : (ds : List Declaration) (d : Declaration) → AllProper ds → ProperStatement d.says → AllProper (ds ++ d ∷ [])
all_more [] d h g = (g, tt)
all_more (e ∷ ds) d h g = (h.0, all_more ds d h.1 g)

pub distinct_push : (ns : List (List ℕ)) (n : List ℕ) → Distinct ns → (Among ns n → ⊥) → Distinct (ns ++ n ∷ [])
distinct_push ns n h f i j p q e = ⊎_elim (λ a. ⊎_elim (λ b. h i j a b (sym (left i a) ∙ e ∙ left j b)) (λ b. absurd (f (i, a, sym (left i a) ∙ e ∙ right j b q))) (cases_lt j (length ns))) (λ a. ⊎_elim (λ b. absurd (f (j, b, sym (left j b) ∙ sym e ∙ right i a p))) (λ b. omega (arith, a, b, p, q, length_push ns n)) (cases_lt j (length ns))) (cases_lt i (length ns))
  where
    left : (k : ℕ) → k < length ns → get_or (ns ++ n ∷ []) k [] ≡ get_or ns k []
    left k a = get_or_append_left ns (n ∷ []) [] k a

    right : (k : ℕ) → length ns ≤ k → k < length (ns ++ n ∷ []) → get_or (ns ++ n ∷ []) k [] ≡ n
    right k a b = get_or_push ns n [] k (omega (arith, a, b, length_push ns n))

nets_more : (ds : List Declaration) (d : Declaration) → nets (ds ++ d ∷ []) ≡ nets ds ++ net_of d.says
nets_more [] d = append-nil (net_of d.says)
nets_more (e ∷ ds) d =
    ap (λ (ns : List (List ℕ)). net_of e.says ++ ns) (nets_more ds d) ∙ sym (append_assoc (net_of e.says) (nets ds) (net_of d.says))

distinct_more : (ds : List Declaration) (s : Statement) → Distinct (nets ds) → (Redefines ds s → ⊥) → Distinct (nets ds ++ net_of s)
distinct_more ds (input n) h f = distinct_push (nets ds) n h f
distinct_more ds (output n) h f = subst Distinct (sym (append-nil (nets ds))) h
distinct_more ds (gate n k os) h f = distinct_push (nets ds) n h f

pub proper_push : (ds : List Declaration) (k : ℕ) (s : Statement) → Proper ds → ProperStatement s → (Redefines ds s → ⊥) → Proper (ds ++ record { line = k; says = s } ∷ [])
proper_push ds k s h p f =
    let d : Declaration = record { line = k; says = s } in
    record { all = all_more ds d h.all p; distinct = subst Distinct (sym (nets_more ds d)) (distinct_more ds s h.distinct f) }

proper_more : (ds : List Declaration) (k : ℕ) (line : List ℕ) (s : Statement) → Accepted ds k line s → Proper ds → Proper (ds ++ record { line = k; says = s } ∷ [])
proper_more ds k line s a h =
    proper_push ds k s h (proper_statement s (λ b. a.clean 4 (long_name s a.spelled b)) (λ b. a.clean 5 (unknown_kind s a.spelled b)) (λ b. a.clean 6 (operand_count s a.spelled b))) (λ b. a.clean 7 (defined_before s a.spelled b))

proper_from : {k : ℕ} {ds : List Declaration} {ls : List (List ℕ)} {a : Answer} {es : List Declaration} → ReadsFrom k ds ls a es → Proper ds → Proper es
proper_from (at_end k ds) h = h
proper_from (silent k ds l ls a es q r) h = proper_from r h
proper_from (declares k ds l ls s a es q r) h = proper_from r (proper_more ds k l s q h)
proper_from (refuses k ds l ls n q) h = h

pub nothing_proper : Proper []
nothing_proper = record { all = tt; distinct = λ i j p q e. absurd (omega (arith, p)) }

-- what was proper before a text is read is proper after it
pub reads_proper : {text : List ℕ} {ds : List Declaration} {a : Answer} {es : List Declaration} → Reads text ds a es → Proper ds → Proper es
reads_proper (too_long q) h = h
reads_proper (in_lines a es q r) h = proper_from r h
