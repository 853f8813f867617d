-- A walk back through the netlist: the nets that are done, in order, and the path to the net that it is at.
use Rattle.std.specs.Prelude.{◌≡◌, ℕ, ◌+◌, ◌<◌, ◌≤◌, Bool, true, false, List, [], ◌∷◌, ◌++◌, length, get_or, count_by, ◌≢◌, slice_index, slice_index_or}
use Rattle.circuit.specs.Circuit.{Cell, operands_at, ReadsIn}
use Rattle.circuit.specs.Circles.{LeadsBack}
use Rattle.walk.specs.declared.mark.Mark.{Mark}
use Rattle.walk.specs.declared.mark.Mark.TheVariants.{New, Open, Done}

abbrev pub mark_at : List Mark → ℕ → Mark
mark_at marks k = slice_index_or marks k New

abbrev pub is_open : Mark → Bool
is_open New = false
is_open (Open left) = true
is_open Done = false

abbrev pub is_done : Mark → Bool
is_done New = false
is_done (Open left) = false
is_done Done = true

-- The nets of the path are open, each leads back to the later ones; the nets of the order are done, each behind all that it reads.
pub record Walk (cells : List Cell) (order path : List ℕ) (marks : List Mark) : Type 0 where
  pub size : length marks ≡ length cells
  pub met : (k left : ℕ) → mark_at marks k ≡ Open left → (i : ℕ) × (i < length path) × (slice_index path i ≡ k)
  pub entered : (i : ℕ) → i < length path → (left : ℕ) × (mark_at marks (slice_index path i) ≡ Open left) × (left ≤ length (operands_at cells (slice_index path i))) ×
      ((q : ℕ) → left ≤ q → q < length (operands_at cells (slice_index path i)) → mark_at marks (slice_index (operands_at cells (slice_index path i)) q) ≡ Done)
  pub chain : (i j : ℕ) → i < j → j < length path → LeadsBack cells (slice_index path i) (slice_index path j) × (slice_index path i ≢ slice_index path j)
  pub place : ℕ → ℕ
  pub done : (k : ℕ) → mark_at marks k ≡ Done → (place k < length order) × (slice_index order (place k) ≡ k)
  pub listed : (p : ℕ) → p < length order → mark_at marks (slice_index order p) ≡ Done
  pub once : (p : ℕ) → p < length order → place (slice_index order p) ≡ p
  pub behind : (p j : ℕ) → p < length order → ReadsIn cells (slice_index order p) j → (mark_at marks j ≡ Done) × (place j < p)
  pub opens : length path ≡ count_by is_open marks
  pub dones : length order ≡ count_by is_done marks

-- What is done stays done.
abbrev pub Stays : List Mark → List Mark → Type 0
Stays before after = (k : ℕ) → mark_at before k ≡ Done → mark_at after k ≡ Done

-- The walk from start is at net, behind the path, and undid nothing of what was done before.
pub record Following (cells : List Cell) (start : ℕ) (before : List Mark) (order path : List ℕ) (net : ℕ) (marks : List Mark) : Type 0 where
  pub state : Walk cells order (path ++ net ∷ []) marks
  pub first : get_or (path ++ net ∷ []) 0 0 ≡ start
  pub stays : Stays before marks

-- more than the steps that the walk still makes at a net with this mark
abbrev pub weight : Mark → ℕ
weight New = 18
weight (Open left) = left + 1
weight Done = 0
