-- From what a line does to the declarations to what a whole text does.
use Rattle.std.proofs.Common.{◌≡◌, ℕ, suc, ◌<◌, List, [], ◌∷◌, ◌++◌, map, Some, None, Ok, Err, Result, sym, refl, ap, ◌∙◌, subst, inr, ⊎_elim, add-one, arith}
use Rattle.std.proofs.lemmas.List.{map_push}
use Rattle.names.specs.Places.{Stands}
use Rattle.grammar.specs.Lines.{lines}
use Rattle.grammar.specs.Grammar.{Statement, Spells, SaysNothing}
use Rattle.grammar.specs.Rules.{Declaration, Redefines, Relists, BeyondLimit, Breaks, long_name, unknown_kind, operand_count, defined_before, listed_before, beyond_limit}
use Rattle.grammar.specs.Reading.{Accepted, Answer, accepted, refused, ReadsFrom, at_end, silent, declares, refuses}
use Rattle.model.specs.Refusals.{refusal}
use Rattle.text.specs.declared.reader.Line.{Line}
use Rattle.text.specs.declared.reader.Reader.{Reader}
use Rattle.text.specs.Windows.{unread, bytes, PlacedIn, GivesLine}
use Rattle.bench.specs.declared.declarations.Declarations.{Declarations}
use Rattle.bench.specs.declared.fault.StatementFault.{StatementFault}
use Rattle.bench.specs.declared.fault.StatementFault.TheVariants as fault
use Rattle.bench.specs.declared.statement.Statement as code
use Rattle.bench.specs.Faults.{statement_refusal}
use Rattle.bench.specs.declared.statement.Statement.TheVariants as statement
use Rattle.bench.specs.declared.statement.Declaration as code-d
use Rattle.bench.specs.Statements.{said, declaration, StatementPlaced, StandsIn, AllStand, CleanAlone, StatementReads}
use Rattle.bench.specs.SoFar.{items, declared, Grows, Declares, ReadsLine}
use Rattle.bench.proofs.Broken.{meets, below, no}

-- a line whose own rules hold, after some declarations
module _ (l : Line) (ds : List Declaration) (s : Statement) (h : Spells (bytes l) s) (clean : CleanAlone l) where
  keeps : (n : ℕ) → (7 < n → Redefines ds s → ⊥) → (8 < n → Relists ds s → ⊥) → (9 < n → BeyondLimit ds l.number s → ⊥) → (m : ℕ) → m < n → Breaks ds l.number (bytes l) m → ⊥
  keeps n a b c m g x = below ds l.number s n (λ _ y. clean ds 4 (omega arith) (long_name s h y)) (λ _ y. clean ds 5 (omega arith) (unknown_kind s h y)) (λ _ y. clean ds 6 (omega arith) (operand_count s h y)) a b c m g (meets (bytes l) s h x)

  accepts : (Redefines ds s → ⊥) → (Relists ds s → ⊥) → (BeyondLimit ds l.number s → ⊥) → Accepted ds l.number (bytes l) s
  accepts a r o = record { spelled = h; clean = λ n b. keeps (suc n) (λ _. a) (λ _. r) (λ _. o) n (omega arith) b }

pub statement_line : (d e : Declarations) (l : Line) (s : code.Statement) (r : Result (Unit {0}) StatementFault) → StatementReads l (Ok (Some s)) → Declares d l.number s r e → ReadsLine d l r e
statement_line d e l s (Ok u) h c =
    inr (s, accepts l (declared d) (said s) h.0 h.1 c.0 c.1 c.2, h.2, c.3)
statement_line d e l s (Err (fault.DefinedBefore j)) h c =
    (7, ap (refusal 7) c.0, record { broken = defined_before (said s) h.0 c.1; smallest = λ m g b. h.1 (declared d) m g b }, c.2)
statement_line d e l s (Err (fault.ListedBefore j)) h c =
    (8, ap (refusal 8) c.0, record { broken = listed_before (said s) h.0 c.2; smallest = keeps l (declared d) (said s) h.0 h.1 8 (λ _. c.1) (no (omega arith)) (no (omega arith)) }, c.3)
statement_line d e l s (Err (fault.BeyondLimit j)) h c =
    (9, ap (refusal 9) c.0, record { broken = beyond_limit (said s) h.0 c.3; smallest = keeps l (declared d) (said s) h.0 h.1 9 (λ _. c.1) (λ _. c.2) (no (omega arith)) }, c.4)
statement_line d e l s (Err (fault.Text f)) h c = absurd c
statement_line d e l s (Err (fault.UnknownKind j)) h c = absurd c
statement_line d e l s (Err (fault.OperandCount j)) h c = absurd c

pub refused_line : (d : Declarations) (l : Line) (f : StatementFault) → StatementReads l (Err f) → ReadsLine d l (Err f) d
refused_line d l f h = (h.0, h.1, h.2 (declared d), refl)

-- what stands in the window on a line stands in the text
stands_in : (text : List ℕ) (l : Line) (s : code.Statement) → PlacedIn text l → StatementPlaced l.window.text.now s → StandsIn text s
stands_in text l (statement.Input n) p h = p n h
stands_in text l (statement.Output n) p h = p n h
stands_in text l (statement.Gate n k c) p h =
    (p n h.0, λ m g. p m (let P : List ℕ → Type 0 = λ t. Stands t m in subst P h.1 g))

all_stand_more : (text : List ℕ) (ds : List code-d.Declaration) (d : code-d.Declaration) → AllStand text ds → StandsIn text d.says → AllStand text (ds ++ d ∷ [])
all_stand_more text [] d h g = (g, tt)
all_stand_more text (e ∷ ds) d h g = (h.0, all_stand_more text ds d h.1 g)

pub still_stand : (text : List ℕ) (d e : Declarations) (l : Line) (u : Unit {0}) → PlacedIn text l → ReadsLine d l (Ok u) e → AllStand text (items d) → AllStand text (items e)
still_stand text d e l u p h a = ⊎_elim quiet more h
  where
    quiet : SaysNothing (bytes l) × (e ≡ d) → AllStand text (items e)
    quiet q = let P : Declarations → Type 0 = λ x. AllStand text (items x) in subst P (sym q.1) a

    more : (s : code.Statement) × Accepted (declared d) l.number (bytes l) (said s) × StatementPlaced l.window.text.now s × Grows d l.number s e → AllStand text (items e)
    more q =
        let P : List code-d.Declaration → Type 0 = λ xs. AllStand text xs in
        subst P (sym q.3) (all_stand_more text (items d) (record { line = l.number; says = q.0 }) a (stands_in text l q.0 p q.2))

-- the lines left, read behind the declarations so far, from the next line's number on
abbrev pub Goes : Reader → Declarations → Answer → List Declaration → Type 0
Goes q d a es = ReadsFrom (suc q.line) (declared d) (lines (unread q)) a es

from_line : (q r : Reader) (l : Line) (d : Declarations) (a : Answer) (es : List Declaration) → GivesLine q (Some l) r → ReadsFrom l.number (declared d) (bytes l ∷ lines (unread r)) a es → Goes q d a es
from_line q r l d a es g h =
    let P : ℕ → List (List ℕ) → Type 0 = λ k ls. ReadsFrom k (declared d) ls a es in
    let number : l.number ≡ suc q.line = g.1 ∙ add-one q.line in
    subst (λ (k : ℕ). P k (lines (unread q))) number (subst (P l.number) (sym g.0) h)

pub goes_on : (q r : Reader) (l : Line) (d e : Declarations) (u : Unit {0}) (a : Answer) (es : List Declaration) → GivesLine q (Some l) r → ReadsLine d l (Ok u) e → Goes r e a es → Goes q d a es
goes_on q r l d e u a es g h t = from_line q r l d a es g (⊎_elim quiet more h)
  where
    next : (ds : List Declaration) → declared e ≡ ds → ReadsFrom (suc l.number) ds (lines (unread r)) a es
    next ds i =
        let number : suc r.line ≡ suc l.number = ap suc (g.2 ∙ sym g.1) in
        subst (λ (k : ℕ). ReadsFrom k ds (lines (unread r)) a es) number (subst (λ (xs : List Declaration). ReadsFrom (suc r.line) xs (lines (unread r)) a es) i t)

    quiet : SaysNothing (bytes l) × (e ≡ d) → ReadsFrom l.number (declared d) (bytes l ∷ lines (unread r)) a es
    quiet p = silent l.number (declared d) (bytes l) (lines (unread r)) a es p.0 (next (declared d) (ap declared p.1))

    more : (s : code.Statement) × Accepted (declared d) l.number (bytes l) (said s) × StatementPlaced l.window.text.now s × Grows d l.number s e → ReadsFrom l.number (declared d) (bytes l ∷ lines (unread r)) a es
    more p =
        let d' : code-d.Declaration = record { line = l.number; says = p.0 } in
        declares l.number (declared d) (bytes l) (lines (unread r)) (said p.0) a es p.1 (next (declared d ++ declaration d' ∷ []) (ap (map declaration) p.3 ∙ map_push declaration (items d) d'))

pub stops_refused : (q r : Reader) (l : Line) (d e : Declarations) (f : StatementFault) → GivesLine q (Some l) r → ReadsLine d l (Err f) e → Goes q d (refused (statement_refusal f)) (declared e)
stops_refused q r l d e f g h =
    let P : Answer → List Declaration → Type 0 = λ a es. ReadsFrom l.number (declared d) (bytes l ∷ lines (unread r)) a es in
    from_line q r l d _ _ g (subst (λ (es : List Declaration). P (refused (statement_refusal f)) es) (sym (ap declared h.3)) (subst (λ (a : Answer). P a (declared d)) (ap refused (sym h.1)) (refuses l.number (declared d) (bytes l) (lines (unread r)) h.0 h.2)))

pub stops_at_end : (q r : Reader) (d : Declarations) → GivesLine q None r → Goes q d accepted (declared d)
stops_at_end q r d g =
    subst (λ (ls : List (List ℕ)). ReadsFrom (suc q.line) (declared d) ls accepted (declared d)) (sym g.0) (at_end (suc q.line) (declared d))
