-- What is true of declarations that were all accepted.
use Rattle.std.specs.Prelude.{◌≡◌, ℕ, ◌<◌, ◌≤◌, true, List, [], ◌∷◌, length, slice_index_or}
use Rattle.model.specs.declared.kind.Kind.{Kind}
use Rattle.model.specs.Kinds.{word, takes}
use Rattle.grammar.specs.Grammar.{Statement, input, output, gate}
use Rattle.grammar.specs.Rules.{Declaration, nets}

-- the name is short, and a gate's kind is known and takes its operands
abbrev pub ProperStatement : Statement → Type 0
ProperStatement (input n) = length n ≤ 16
ProperStatement (output n) = length n ≤ 16
ProperStatement (gate n k os) = (length n ≤ 16) × ((kind : Kind) × (k ≡ word kind) × (takes kind (length os) ≡ true))

abbrev pub AllProper : List Declaration → Type 0
AllProper [] = Unit {0}
AllProper (d ∷ ds) = ProperStatement d.says × AllProper ds

-- no two places of the list have the same name
abbrev pub Distinct : List (List ℕ) → Type 0
Distinct ns = (i j : ℕ) → i < length ns → j < length ns → slice_index_or ns i [] ≡ slice_index_or ns j [] → i ≡ j

pub record Proper (ds : List Declaration) : Type 0 where
  pub all : AllProper ds
  pub distinct : Distinct (nets ds)
