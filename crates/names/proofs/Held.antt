-- The names that a table holds.
use Rattle.std.proofs.Common.{◌≡◌, length, vec_items, vec_len, sym, ◌∙◌}
use Rattle.std.proofs.lemmas.List.{length-map}
use Rattle.names.specs.declared.table.Names.{Names}
use Rattle.names.specs.Tables.{bytes_of, held}

pub held_length : (t : Names) → length (held t) ≡ vec_len t.names
held_length t = length-map (vec_items t.names) bytes_of ∙ sym t.names.ok.0
