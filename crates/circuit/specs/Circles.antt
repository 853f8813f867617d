-- Which nets depend on a circle, and what an order is.
use Rattle.std.specs.Prelude.{◌≡◌, ℕ, ◌<◌, List, length, slice_index}
use Rattle.circuit.specs.Circuit.{Cell, ReadsIn, Netlist, IsOutput, cell_in, input}

-- followed back from net k, by one step or more, one comes to net j
pub data LeadsBack (cells : List Cell) (k : ℕ) : ℕ → Type 0 where
  step : {j : ℕ} → ReadsIn cells k j → LeadsBack cells k j
  further : {i j : ℕ} → LeadsBack cells k i → ReadsIn cells i j → LeadsBack cells k j

-- followed back from net k one comes to net k again
abbrev pub OnCircle : List Cell → ℕ → Type 0
OnCircle cells k = LeadsBack cells k k

-- followed back from net k one comes to a net on a circle, be it k itself or one behind it
abbrev pub DependsOnCircle : List Cell → ℕ → Type 0
DependsOnCircle cells k = (j : ℕ) × LeadsBack cells k j × OnCircle cells j

abbrev pub CircleFree : List Cell → Type 0
CircleFree cells = (k : ℕ) → DependsOnCircle cells k → ⊥

-- net k depends on a circle, and no net before it does
abbrev pub FirstDependent : List Cell → ℕ → Type 0
FirstDependent cells k = (k < length cells) × DependsOnCircle cells k × ((j : ℕ) → j < k → DependsOnCircle cells j → ⊥)

-- each net stands once in the list, behind all that it reads
pub record Sorted (cells : List Cell) (order : List ℕ) : Type 0 where
  pub size : length order ≡ length cells
  pub nets : (p : ℕ) → p < length order → slice_index order p < length cells
  pub place : ℕ → ℕ
  pub placed : (k : ℕ) → k < length cells → (place k < length order) × (slice_index order (place k) ≡ k)
  pub once : (p : ℕ) → p < length order → place (slice_index order p) ≡ p
  pub behind : (p j : ℕ) → p < length order → ReadsIn cells (slice_index order p) j → (j < length cells) × (place j < p)

-- every net has a place in an order in which each gate reads only earlier nets; outputs are nets, and inputs are numbered below n
pub record Ordered (c : Netlist) : Type 0 where
  pub place : ℕ → ℕ
  pub within : (k : ℕ) → k < length c.cells → place k < length c.cells
  pub earlier : (k j : ℕ) → k < length c.cells → ReadsIn c.cells k j → place j < place k
  pub read_net : (k j : ℕ) → k < length c.cells → ReadsIn c.cells k j → j < length c.cells
  pub output_net : (k : ℕ) → IsOutput c k → k < length c.cells
  pub input_below : (k i : ℕ) → k < length c.cells → cell_in c.cells k ≡ input i → i < c.inputs
