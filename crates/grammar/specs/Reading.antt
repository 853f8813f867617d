-- What a whole text declares, or the one refusal that it meets.
use Rattle.std.specs.Prelude.{◌≡◌, ℕ, suc, ◌<◌, ◌≤◌, List, [], ◌∷◌, ◌++◌, length}
use Rattle.model.specs.declared.refusal.Refusal.{Refusal}
use Rattle.model.specs.Refusals.{refusal}
use Rattle.grammar.specs.Lines.{lines}
use Rattle.grammar.specs.Grammar.{Statement, Spells, SaysNothing}
use Rattle.grammar.specs.Rules.{Declaration, Breaks}

-- on one line the smallest number wins
pub record Refused (ds : List Declaration) (k : ℕ) (line : List ℕ) (n : ℕ) : Type 0 where
  pub broken : Breaks ds k line n
  pub smallest : (m : ℕ) → m < n → Breaks ds k line m → ⊥

-- the line spells this statement, and breaks no rule
pub record Accepted (ds : List Declaration) (k : ℕ) (line : List ℕ) (s : Statement) : Type 0 where
  pub spelled : Spells line s
  pub clean : (n : ℕ) → Breaks ds k line n → ⊥

pub data Answer : Type 0 where
  accepted : Answer
  refused : Refusal → Answer

-- The lines from line k on, read in order behind the declarations ds, get this answer and leave these declarations.
pub data ReadsFrom : ℕ → List Declaration → List (List ℕ) → Answer → List Declaration → Type 0 where
  at_end : (k : ℕ) (ds : List Declaration) → ReadsFrom k ds [] accepted ds
  silent : (k : ℕ) (ds : List Declaration) (l : List ℕ) (ls : List (List ℕ)) (a : Answer) (es : List Declaration) → SaysNothing l → ReadsFrom (suc k) ds ls a es → ReadsFrom k ds (l ∷ ls) a es
  declares : (k : ℕ) (ds : List Declaration) (l : List ℕ) (ls : List (List ℕ)) (s : Statement) (a : Answer) (es : List Declaration) → Accepted ds k l s → ReadsFrom (suc k) (ds ++ record { line = k; says = s } ∷ []) ls a es → ReadsFrom k ds (l ∷ ls) a es
  refuses : (k : ℕ) (ds : List Declaration) (l : List ℕ) (ls : List (List ℕ)) (n : ℕ) → Refused ds k l n → ReadsFrom k ds (l ∷ ls) (refused (refusal n k)) ds

-- Lines count from 1. A text over 65,536 bytes is refused by 2 and not read.
pub data Reads (text : List ℕ) (ds : List Declaration) : Answer → List Declaration → Type 0 where
  too_long : 65536 < length text → Reads text ds (refused (refusal 2 0)) ds
  in_lines : (a : Answer) (es : List Declaration) → length text ≤ 65536 → ReadsFrom 1 ds (lines text) a es → Reads text ds a es

-- A line spells at most one statement, and none where it says nothing.
abbrev pub OneStatement : Type 0
OneStatement = ((line : List ℕ) (s t : Statement) → Spells line s → Spells line t → s ≡ t) × ((line : List ℕ) (s : Statement) → Spells line s → SaysNothing line → ⊥)

-- A text is read in at most one way.
abbrev pub OneReading : Type 0
OneReading = (text : List ℕ) (ds : List Declaration) (a b : Answer) (es fs : List Declaration) → Reads text ds a es → Reads text ds b fs → (a ≡ b) × (es ≡ fs)
