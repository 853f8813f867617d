-- What the code's tables say of the model's cells.
use Rattle.std.proofs.Common.{◌≡◌, ℕ, ◌<◌, List, length, get_or, drop, sym, ap, ◌∙◌, subst, arith}
use Rattle.std.proofs.lemmas.List.{get_or-map, length-map, length-take, get_or-take, get_or-drop}
use Rattle.circuit.specs.Circuit.{operands_of, operands_at, input}
use Rattle.circuit.specs.declared.net.Net.{Net}
use Rattle.circuit.specs.declared.net.Net.TheVariants.{Input, Gate}
use Rattle.circuit.specs.Tables.{cell_of, cells_of, Formed, AllFormed}

pub operands_are : (nets : List Net) (pins : List ℕ) (k : ℕ) → k < length nets → operands_at (cells_of nets pins) k ≡ operands_of (cell_of pins (get_or nets k (Input 0)))
operands_are nets pins k within = ap operands_of (get_or-map (cell_of pins) nets k (Input 0) (input 0) within)

pub cells_size : (nets : List Net) (pins : List ℕ) → length (cells_of nets pins) ≡ length nets
cells_size nets pins = length-map nets (cell_of pins)

formed_reads : (n : ℕ) (pins : List ℕ) (net : Net) → Formed pins n net → (q : ℕ) → q < length (operands_of (cell_of pins net)) → get_or (operands_of (cell_of pins net)) q 0 < n
formed_reads n pins (Input i) formed q under = absurd (omega arith)
formed_reads n pins (Gate kind first count) formed q under =
    let few : q < count = omega (arith, length-take count (drop first pins)) in
    subst (λ z. z < n) (sym (get_or-take count (drop first pins) q 0 few ∙ get_or-drop first pins q 0)) (formed.2 q few)

-- every operand is a net
pub read_net_lem : (nets : List Net) (pins : List ℕ) → AllFormed nets pins → (k q : ℕ) → k < length nets → q < length (operands_at (cells_of nets pins) k) → get_or (operands_at (cells_of nets pins) k) q 0 < length nets
read_net_lem nets pins formed k q within under =
    subst (λ js. q < length js → get_or js q 0 < length nets) (sym (operands_are nets pins k within)) (formed_reads (length nets) pins (get_or nets k (Input 0)) (formed k within) q) under

pub same_cells : (nets nets' : List Net) (pins pins' : List ℕ) → nets ≡ nets' → pins ≡ pins' → cells_of nets pins ≡ cells_of nets' pins'
same_cells nets nets' pins pins' a b = ap (λ z. cells_of z pins) a ∙ ap (λ z. cells_of nets' z) b
