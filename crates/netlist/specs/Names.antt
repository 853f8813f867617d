-- Names and lines of nets, as the tables have them.
use Rattle.std.specs.Prelude.{ℕ, List, map}
use Rattle.netlist.specs.declared.tables.Definition.{Definition}

abbrev pub name_bytes : Definition → List ℕ
name_bytes d = d.name.items

abbrev pub names_of : List Definition → List (List ℕ)
names_of ds = map name_bytes ds

abbrev pub lines_of : List Definition → List ℕ
lines_of ds = map (λ d. d.line) ds
