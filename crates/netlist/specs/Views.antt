-- A netlist's tables as the netlist that they stand for.
use Rattle.std.specs.Prelude.{◌≡◌, ℕ, ◌<◌, ◌≤◌, List, [], length, Some, None, vec_items, Option, slice_index_or}
use Rattle.std.specs.Borrow.{Bor}
use Rattle.model.specs.declared.counts.Counts.{Counts}
use Rattle.circuit.specs.Circuit as circuit
use Rattle.circuit.specs.Tables.{cells_of}
use Rattle.circuit.specs.Readers.{readers_of}
use Rattle.circuit.specs.declared.net.Net.{Net}
use Rattle.netlist.specs.declared.whole.Netlist.{Netlist}
use Rattle.netlist.specs.Names.{names_of}

abbrev pub netlist_in : Netlist → circuit.Netlist
netlist_in n = record { inputs = n.inputs; cells = cells_of (vec_items n.nets) (vec_items n.pins); outputs = vec_items n.outputs }

-- the names of the nets, net by net
abbrev pub names_in : Netlist → List (List ℕ)
names_in n = names_of (vec_items n.definitions)

-- the net that each pin reads, pin by pin
abbrev pub pins_in : Netlist → List ℕ
pins_in n = vec_items n.pins

abbrev pub counts_in : Netlist → Counts
counts_in n = record { nets = length (netlist_in n).cells; inputs = (netlist_in n).inputs; outputs = length (netlist_in n).outputs; pins = length (pins_in n) }

-- no net, no input and no output
abbrev pub Empty : Netlist → Type 0
Empty n = (netlist_in n ≡ record { inputs = 0; cells = []; outputs = [] }) × (names_in n ≡ []) × (pins_in n ≡ [])

-- what defines each net, net by net
abbrev pub nets_in : Netlist → List Net
nets_in n = vec_items n.nets

-- an order in which each gate stands behind what it reads
abbrev pub order_in : Netlist → List ℕ
order_in n = vec_items n.order

-- the name of net k, or none where there is no such net
abbrev pub Named : Netlist → ℕ → Option (Bor (List ℕ)) → Type 0
Named n k (Some name) = (k < length (names_in n)) × (name.now ≡ slice_index_or (names_in n) k [])
Named n k None = length (names_in n) ≤ k

-- the nets that read net k, or none where there is no such net
abbrev pub ReadBy : Netlist → ℕ → Option (Bor (List ℕ)) → Type 0
ReadBy n k (Some readers) = (k < length (netlist_in n).cells) × (readers.now ≡ readers_of (netlist_in n).cells k)
ReadBy n k None = length (netlist_in n).cells ≤ k
