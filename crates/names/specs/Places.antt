use Rattle.std.specs.Prelude.{◌≡◌, ℕ, List, length, take, drop}
use Rattle.names.specs.declared.name.Name.{Name}

abbrev pub bytes_of : Name → List ℕ
bytes_of n = n.bytes.now

-- the name stands at its place of the text
abbrev pub Stands : List ℕ → Name → Type 0
Stands text n = take (length n.bytes.now) (drop n.at text) ≡ n.bytes.now
