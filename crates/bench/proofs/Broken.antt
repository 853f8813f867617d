-- Which rules a line breaks, from the statement that it spells.
use Rattle.std.proofs.Common.{◌≡◌, ℕ, ◌<◌, ◌≤◌, Bool, true, false, cond, ◌||◌, eqb, List, [], length, Some, Ok, Err, Option, codes, sym, refl, ap, ◌∙◌, subst, arith}
use Rattle.std.proofs.lemmas.Bool.{both_ways}
use Rattle.model.specs.declared.kind.Kind.{Kind}
use Rattle.model.specs.declared.kind.Kind.TheVariants.{And, Nand, Or, Nor, Xor, Xnor, Not, Buff}
use Rattle.std.specs.Str.{bytes_eq}
use Rattle.model.specs.Kinds.{word, takes, several_operands}
use Rattle.model.specs.Refusals.{refusal}
use Rattle.grammar.specs.Grammar.{Statement, input, output, gate, Spells}
use Rattle.grammar.specs.Rules.{Declaration, NoStatement, LongName, UnknownKind, OperandCount, Redefines, Relists, BeyondLimit, Breaks, no_statement, long_name, unknown_kind, operand_count, defined_before, listed_before, beyond_limit}
use Rattle.grammar.specs.Proper.{ProperStatement}
use Rattle.grammar.specs.Reading.{Refused}
use Rattle.grammar.proofs.Once.{same_statement}
use Rattle.grammar.proofs.Properly.{proper_statement}
use Rattle.grammar.proofs.Props.{same_kind}
use Rattle.names.specs.declared.name.Name.{Name}
use Rattle.text.specs.declared.cursor.Cursor.{Cursor}
use Rattle.text.specs.declared.fault.TextFault.{TextFault}
use Rattle.text.specs.declared.fault.TextFault.TheVariants as fault
use Rattle.text.specs.declared.reader.Line.{Line}
use Rattle.text.specs.declared.shape.Shape.{Shape}
use Rattle.text.specs.declared.shape.Shape.TheVariants as shape
use Rattle.text.specs.Shapes.{SpellsShort, TextReads}
use Rattle.text.specs.Tokens.{names_left}
use Rattle.text.specs.Windows.{bytes}
use Rattle.bench.specs.declared.fault.StatementFault.TheVariants.{Text}
use Rattle.bench.specs.declared.fault.StatementFault.TheVariants as refuses
use Rattle.bench.specs.declared.statement.Statement.TheVariants as statement
use Rattle.bench.specs.Statements.{CleanAlone, StatementReads}

-- the rules that a statement breaks
pub data Meets (ds : List Declaration) (k : ℕ) (s : Statement) : ℕ → Type 0 where
  long : LongName s → Meets ds k s 4
  unknown : UnknownKind s → Meets ds k s 5
  miscounted : OperandCount s → Meets ds k s 6
  redefines : Redefines ds s → Meets ds k s 7
  relists : Relists ds s → Meets ds k s 8
  beyond : BeyondLimit ds k s → Meets ds k s 9

module _ (line : List ℕ) (s : Statement) (h : Spells line s) where
  pub meets : {ds : List Declaration} {k n : ℕ} → Breaks ds k line n → Meets ds k s n
  meets (no_statement b) = absurd (b.1 s h)
  meets (long_name t e b) = long (subst LongName (same_statement line t s e h) b)
  meets (unknown_kind t e b) = unknown (subst UnknownKind (same_statement line t s e h) b)
  meets (operand_count t e b) = miscounted (subst OperandCount (same_statement line t s e h) b)
  meets {ds = ds} (defined_before t e b) = redefines (subst (Redefines ds) (same_statement line t s e h) b)
  meets {ds = ds} (listed_before t e b) = relists (subst (Relists ds) (same_statement line t s e h) b)
  meets {ds = ds} {k = k} (beyond_limit t e b) = beyond (subst (BeyondLimit ds k) (same_statement line t s e h) b)

  -- refused by n, where the statement breaks no rule of a smaller number
  pub refused_by : (ds : List Declaration) (k n : ℕ) → Breaks ds k line n → ((m : ℕ) → m < n → Meets ds k s m → ⊥) → Refused ds k line n
  refused_by ds k n b f = record { broken = b; smallest = λ m g c. f m g (meets c) }

pub refused_3 : (ds : List Declaration) (k : ℕ) (line : List ℕ) → NoStatement line → Refused ds k line 3
refused_3 ds k line b = record { broken = no_statement b; smallest = below }
  where
    below : (m : ℕ) → m < 3 → Breaks ds k line m → ⊥
    below m g (no_statement c) = omega (arith, g)
    below m g (long_name t e c) = omega (arith, g)
    below m g (unknown_kind t e c) = omega (arith, g)
    below m g (operand_count t e c) = omega (arith, g)
    below m g (defined_before t e c) = omega (arith, g)
    below m g (listed_before t e c) = omega (arith, g)
    below m g (beyond_limit t e c) = omega (arith, g)

-- a statement that breaks none of the rules of a smaller number than n
pub below : (ds : List Declaration) (k : ℕ) (s : Statement) (n : ℕ) → (4 < n → LongName s → ⊥) → (5 < n → UnknownKind s → ⊥) → (6 < n → OperandCount s → ⊥) → (7 < n → Redefines ds s → ⊥) → (8 < n → Relists ds s → ⊥) → (9 < n → BeyondLimit ds k s → ⊥) → (m : ℕ) → m < n → Meets ds k s m → ⊥
below ds k s n a b c d e f m g (long h) = a g h
below ds k s n a b c d e f m g (unknown h) = b g h
below ds k s n a b c d e f m g (miscounted h) = c g h
below ds k s n a b c d e f m g (redefines h) = d g h
below ds k s n a b c d e f m g (relists h) = e g h
below ds k s n a b c d e f m g (beyond h) = f g h

-- a rule of no smaller number
pub no : {A : Type 0} {i n : ℕ} → n ≤ i → i < n → A → ⊥
no h g a = omega (arith, h, g)

pub clean_alone : (l : Line) (s : Statement) → Spells (bytes l) s → (LongName s → ⊥) → (UnknownKind s → ⊥) → (OperandCount s → ⊥) → CleanAlone l
clean_alone l s h a b d = λ ds n g c. below ds l.number s 7 (λ _. a) (λ _. b) (λ _. d) (no (omega arith)) (no (omega arith)) (no (omega arith)) n g (meets (bytes l) s h c)

-- what the text layer refuses is refused
pub text_refused : (l : Line) (e : TextFault) → TextReads l (Err e) → StatementReads l (Err (Text e))
text_refused l fault.TooLong h = absurd h
text_refused l (fault.NoStatement k) h = (3, ap (refusal 3) h.0, λ ds. refused_3 ds l.number (bytes l) h.1)
text_refused l (fault.LongName k) h =
    let s = h.1.0 in
    (4, ap (refusal 4) h.0, λ ds. refused_by (bytes l) s h.1.1 ds l.number 4 (long_name s h.1.1 h.1.2) (below ds l.number s 4 (no (omega arith)) (no (omega arith)) (no (omega arith)) (no (omega arith)) (no (omega arith)) (no (omega arith))))

-- a gate that the text layer has read
gate_read : (l : Line) (r : Option Shape) (n k : Name) (c : Cursor) → TextReads l (Ok r) → r ≡ Some (shape.Gate n k c) → SpellsShort (bytes l) (gate n.bytes.now k.bytes.now (names_left c))
gate_read l r n k c h e = let P : Option Shape → Type 0 = λ q. TextReads l (Ok q) in (subst P e h).0

pub unknown_refused : (l : Line) (r : Option Shape) (n k : Name) (c : Cursor) → TextReads l (Ok r) → r ≡ Some (shape.Gate n k c) → ((kind : Kind) → k.bytes.now ≡ word kind → ⊥) → StatementReads l (Err (refuses.UnknownKind l.number))
unknown_refused l r n k c h e u =
    let g = gate_read l r n k c h e in
    let s = gate n.bytes.now k.bytes.now (names_left c) in
    (5, refl, λ ds. refused_by (bytes l) s g.0 ds l.number 5 (unknown_kind s g.0 u) (below ds l.number s 5 (λ _. g.1) (no (omega arith)) (no (omega arith)) (no (omega arith)) (no (omega arith)) (no (omega arith))))

pub miscount_refused : (l : Line) (r : Option Shape) (n k : Name) (c : Cursor) (kind : Kind) → TextReads l (Ok r) → r ≡ Some (shape.Gate n k c) → k.bytes.now ≡ word kind → takes kind (length (names_left c)) ≡ false → StatementReads l (Err (refuses.OperandCount l.number))
miscount_refused l r n k c kind h e w f =
    let g = gate_read l r n k c h e in
    let s = gate n.bytes.now k.bytes.now (names_left c) in
    (6, refl, λ ds. refused_by (bytes l) s g.0 ds l.number 6 (operand_count s g.0 (kind, w, f)) (below ds l.number s 6 (λ _. g.1) (λ _ u. u kind w) (no (omega arith)) (no (omega arith)) (no (omega arith)) (no (omega arith))))

pub input_read : (l : Line) (r : Option Shape) (n : Name) → TextReads l (Ok r) → r ≡ Some (shape.Input n) → StatementReads l (Ok (Some (statement.Input n)))
input_read l r n h e =
    let P : Option Shape → Type 0 = λ q. TextReads l (Ok q) in
    let g = subst P e h in
    (g.0.0, clean_alone l (input n.bytes.now) g.0.0 g.0.1 (λ u. u) (λ u. u), g.1)

pub output_read : (l : Line) (r : Option Shape) (n : Name) → TextReads l (Ok r) → r ≡ Some (shape.Output n) → StatementReads l (Ok (Some (statement.Output n)))
output_read l r n h e =
    let P : Option Shape → Type 0 = λ q. TextReads l (Ok q) in
    let g = subst P e h in
    (g.0.0, clean_alone l (output n.bytes.now) g.0.0 g.0.1 (λ u. u) (λ u. u), g.1)

-- a statement whose line breaks no rule of its own is proper
pub clean_proper : (l : Line) (s : Statement) → Spells (bytes l) s → CleanAlone l → ProperStatement s
clean_proper l s h c =
    proper_statement s (λ b. c [] 4 (omega arith) (long_name s h b)) (λ b. c [] 5 (omega arith) (unknown_kind s h b)) (λ b. c [] 6 (omega arith) (operand_count s h b))

pub gate_accepted : (l : Line) (r : Option Shape) (n k : Name) (c : Cursor) (kind : Kind) → TextReads l (Ok r) → r ≡ Some (shape.Gate n k c) → k.bytes.now ≡ word kind → takes kind (length (names_left c)) ≡ true → StatementReads l (Ok (Some (statement.Gate n kind c)))
gate_accepted l r n k c kind h e w f =
    let P : Option Shape → Type 0 = λ q. TextReads l (Ok q) in
    let g = subst P e h in
    let s : List ℕ → Statement = λ v. gate n.bytes.now v (names_left c) in
    let Q : List ℕ → Type 0 = λ v. Spells (bytes l) (s v) in (
      subst Q w g.0.0,
      clean_alone l (s k.bytes.now) g.0.0 g.0.1 (λ u. u kind w) (λ u. both_ways (takes kind (length (names_left c))) (ap (λ (j : Kind). takes j (length (names_left c))) (same_kind kind u.0 (sym w ∙ u.1)) ∙ u.2) f),
      (g.1, g.2),
    )

-- how many operands a kind takes, by the word for it
takes_word : List ℕ → ℕ → Bool
takes_word w n = cond (bytes_eq w (codes "NOT") || bytes_eq w (codes "BUFF")) (eqb n 1) (several_operands n)

takes_by_word : (k : Kind) (n : ℕ) → takes_word (word k) n ≡ takes k n
unfolding takes_word
takes_by_word And n = refl
takes_by_word Nand n = refl
takes_by_word Or n = refl
takes_by_word Nor n = refl
takes_by_word Xor n = refl
takes_by_word Xnor n = refl
takes_by_word Not n = refl
takes_by_word Buff n = refl
