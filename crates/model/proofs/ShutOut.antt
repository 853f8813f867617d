-- What the laws shut out: gates that never tell anything, and a search that never sees a difference.
use Rattle.std.proofs.Common.{◌≡◌, ℕ, Bool, true, false, refl, subst, arith}
use Rattle.model.specs.Bits.{bit, differ}
use Rattle.model.specs.Pairs.{Decided}
use Rattle.model.specs.Operations.{Ops}
use Rattle.model.specs.Meaning.{Meaning}
use Rattle.model.specs.OperationLaws.{OperationLaws}
use Rattle.model.specs.SearchLaws.{Search, SearchLaws}
use Rattle.model.specs.ShutOut.{ShutsOutUnknownAnd, ShutsOutNeverDiffers}
use Rattle.model.proofs.DecidedLanes.{only_size}
use Rattle.model.proofs.PairFacts.{has_some}

loaded : {V : Type 0} (m : Meaning V) (o : Ops V) → OperationLaws m o → (w : ℕ) → Decided (m.pairs (o.load w) 0)
loaded m o operations w =
    let is = operations.load w 0 operations.some_lane in
    rw (is true true, is true false, is false true, is false false) (only_size (bit w 0) (bit w 0))

open_unknown : {V : Type 0} (m : Meaning V) (s : Search V) → SearchLaws m s → Decided (m.pairs s.unknown 0) → ⊥
open_unknown m s searches d =
    let all = searches.unknown in
    omega (arith, rw (all true true, all true false, all false true, all false false) at d)

pub unknown_and : (V : Type 0) → ShutsOutUnknownAnd V
unknown_and V m o s operations searches lazy =
    let decided = loaded m o operations 0 in
    open_unknown m s searches (subst (λ v. Decided (m.pairs v 0)) (lazy (o.load 0) (o.load 0))
    (operations.and.exact (o.load 0) (o.load 0) 0 operations.some_lane decided decided))

pub never_differs : (V : Type 0) → ShutsOutNeverDiffers V
never_differs V m s searches no_difference =
    let seen = has_some differ (m.pairs s.unknown 0) true false (searches.unknown true false) refl in
    let said = searches.may_differ s.unknown in
    let never = no_difference s.unknown in
    let z : ◌≡◌ {A = Bool} true false = cc in
    grind arith
