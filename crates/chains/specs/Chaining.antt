-- What becomes of a table of keys.
use Rattle.std.specs.Prelude.{ℕ, ◌<◌, ◌≤◌, List, length, Ok, Err, Result, slice_index}
use Rattle.chains.specs.declared.Chains.{Chains}
use Rattle.chains.specs.declared.ChainFault.{ChainFault}
use Rattle.chains.specs.declared.ChainFault.TheVariants.{Memory, ManyKeys, HighKey}
use Rattle.chains.specs.Chains.{Chained}

-- every place has a number of 16 bits, and one is left for no place
abbrev pub FewKeys : List ℕ → Type 0
FewKeys keys = length keys ≤ 65535

abbrev pub AllBelow : List ℕ → ℕ → Type 0
AllBelow keys count = (i : ℕ) → i < length keys → slice_index keys i < count

-- the chains of the table; or the first thing that is wrong with it; or want of memory
abbrev pub ChainsOf : List ℕ → ℕ → Result Chains ChainFault → Type 0
ChainsOf keys count (Ok c) = FewKeys keys × AllBelow keys count × Chained keys count c.first.items c.next.items
ChainsOf keys count (Err Memory) = FewKeys keys × AllBelow keys count
ChainsOf keys count (Err ManyKeys) = 65535 < length keys
ChainsOf keys count (Err HighKey) = FewKeys keys × ((i : ℕ) × (i < length keys) × (count ≤ slice_index keys i))
