-- That all gates are formed is a fact that a type can keep.
use Rattle.std.proofs.Common.{ℕ, List, length}
use Rattle.std.proofs.Props.{props}
use Rattle.std.specs.Coded.{Π_prop}
use Rattle.std.specs.Prelude.{slice_index_or}
use Rattle.circuit.specs.Tables.{Formed, AllFormed}
use Rattle.circuit.specs.declared.net.Net.{Net}
use Rattle.circuit.specs.declared.net.Net.TheVariants.{Input, Gate}

formed_prop : (pins : List ℕ) (n : ℕ) (net : Net) → IsProp (Formed pins n net)
formed_prop pins n (Input i) = hlevel props
formed_prop pins n (Gate kind first count) = hlevel props

pub all_formed_prop : (nets : List Net) (pins : List ℕ) → IsProp (AllFormed nets pins)
all_formed_prop nets pins = Π_prop λ k. Π_prop λ _. formed_prop pins (length nets) (slice_index_or nets k (Input 0))
