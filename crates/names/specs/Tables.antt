-- What the table of names answers.
pub use Rattle.names.specs.Places.{bytes_of}
use Rattle.std.specs.Prelude.{◌≡◌, ℕ, ◌<◌, ◌≤◌, List, [], ◌∷◌, ◌++◌, map, length, Some, None, Ok, Err, vec_items, Option, Result, ◌≢◌, slice_index_or}
use Rattle.model.specs.declared.full.Full.{Full}
use Rattle.names.specs.declared.table.Names.{Names}

-- the names in the table, oldest first
abbrev pub held : Names → List (List ℕ)
held t = map bytes_of (vec_items t.names)

-- the last place of a name, or none where it stands nowhere
abbrev pub LastPlace : List (List ℕ) → List ℕ → Option ℕ → Type 0
LastPlace ns n None = (j : ℕ) → j < length ns → slice_index_or ns j [] ≢ n
LastPlace ns n (Some i) = (i < length ns) × (slice_index_or ns i [] ≡ n) × ((j : ℕ) → i < j → j < length ns → slice_index_or ns j [] ≢ n)

-- one name more, or the table is full and stays as it is
abbrev pub Adds : Names → List ℕ → Result (Unit {0}) Full → Names → Type 0
Adds t n (Ok u) v = (held v ≡ held t ++ n ∷ []) × (v.most ≡ t.most)
Adds t n (Err f) v = (t.most ≤ length (held t)) × (v ≡ t)
