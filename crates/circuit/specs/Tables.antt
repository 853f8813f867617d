-- A netlist's tables as the cells that they stand for.
use Rattle.std.specs.Prelude.{◌≡◌, ℕ, ◌+◌, ◌<◌, ◌≤◌, Bool, true, ◌&&◌, List, [], ◌∷◌, map, length, take, drop, ◌==◌, nat_le, nat_lt, slice_index, slice_index_or}
use Rattle.model.specs.declared.kind.Kind.{Kind}
use Rattle.model.specs.Kinds.{takes}
use Rattle.circuit.specs.Circuit.{Cell, Netlist, input, gate, pin_count}
use Rattle.circuit.specs.declared.net.Net.{Net}
use Rattle.circuit.specs.declared.net.Net.TheVariants.{Input, Gate}

abbrev pub cell_of : List ℕ → Net → Cell
cell_of pins (Input i) = input i
cell_of pins (Gate kind first count) = gate kind (take count (drop first pins))

abbrev pub cells_of : List Net → List ℕ → List Cell
cells_of nets pins = map (cell_of pins) nets

-- a gate's pins lie in the table of pins, and each of its operands is one of n nets
abbrev pub Formed : List ℕ → ℕ → Net → Type 0
Formed pins n (Input i) = Unit {0}
Formed pins n (Gate kind first count) = (first + count ≤ length pins) × (count ≤ 16) × ((q : ℕ) → q < count → slice_index pins (first + q) < n)

abbrev pub AllFormed : List Net → List ℕ → Type 0
AllFormed nets pins = (k : ℕ) → k < length nets → Formed pins (length nets) (slice_index_or nets k (Input 0))

abbrev pub netlist_from : ℕ → List Net → List ℕ → List ℕ → Netlist
netlist_from inputs nets pins outputs = record { inputs = inputs; cells = cells_of nets pins; outputs = outputs }

-- Tables within the limits that stand for a netlist: a gate has as many operands as its kind takes, and its pins stand
-- behind those of the gates before it and fill the table.
pub record FitTables (inputs : ℕ) (nets : List Net) (pins outputs : List ℕ) : Type 0 where
  pub formed : AllFormed nets pins
  pub input_below : (k i : ℕ) → k < length nets → slice_index_or nets k (Input 0) ≡ Input i → i < inputs
  pub takes_so_many : (k first count : ℕ) (kind : Kind) → k < length nets → slice_index_or nets k (Input 0) ≡ Gate kind first count → takes kind count ≡ true
  pub begins : (k first count : ℕ) (kind : Kind) → k < length nets → slice_index_or nets k (Input 0) ≡ Gate kind first count → first ≡ pin_count (take k (cells_of nets pins))
  pub fills : length pins ≡ pin_count (cells_of nets pins)
  pub output_nets : (o : ℕ) → o < length outputs → slice_index outputs o < length nets
  pub few_nets : length nets ≤ 2048
  pub few_pins : length pins ≤ 8192
  pub few_inputs : inputs ≤ 64
  pub few_outputs : length outputs ≤ 64

-- The same as a test that computes, for the type of a netlist.

-- the pins of the gates stand one behind the other, from place p on up to place q
abbrev pub pins_follow : ℕ → ℕ → List Net → Bool
pins_follow p q [] = p == q
pins_follow p q (Input i ∷ nets) = pins_follow p q nets
pins_follow p q (Gate kind first count ∷ nets) = first == p && pins_follow (p + count) q nets

-- each input is one of n, and each gate has as many operands as its kind takes
abbrev pub nets_fit : ℕ → List Net → Bool
nets_fit n [] = true
nets_fit n (Input i ∷ nets) = nat_lt i n && nets_fit n nets
nets_fit n (Gate kind first count ∷ nets) = takes kind count && nets_fit n nets

abbrev pub all_below : ℕ → List ℕ → Bool
all_below n [] = true
all_below n (k ∷ ks) = nat_lt k n && all_below n ks

abbrev pub within_limits : ℕ → ℕ → ℕ → ℕ → Bool
within_limits inputs nets pins outputs = nat_le nets 2048 && (nat_le pins 8192 && (nat_le inputs 64 && nat_le outputs 64))

abbrev pub tables_fit : ℕ → List Net → List ℕ → List ℕ → Bool
tables_fit inputs nets pins outputs =
    within_limits inputs (length nets) (length pins) (length outputs) && (pins_follow 0 (length pins) nets && (nets_fit inputs nets
    && (all_below (length nets) pins && all_below (length nets) outputs)))
