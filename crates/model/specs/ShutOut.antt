-- Empty answers that the laws shut out, for values of any type V, any meaning and any operations on them.
use Rattle.std.specs.Prelude.{◌≡◌, false}
use Rattle.model.specs.Operations.{Ops}
use Rattle.model.specs.Meaning.{Meaning}
use Rattle.model.specs.OperationLaws.{OperationLaws}
use Rattle.model.specs.SearchLaws.{Search, SearchLaws}

-- an `and` that is always unknown
abbrev pub ShutsOutUnknownAnd : Type 0 → Type 0
ShutsOutUnknownAnd V =
    (m : Meaning V) (o : Ops V) (s : Search V) → OperationLaws m o → SearchLaws m s → ((u v : V) → o.and u v ≡ s.unknown) → ⊥

-- a `may differ` that always says no
abbrev pub ShutsOutNeverDiffers : Type 0 → Type 0
ShutsOutNeverDiffers V = (m : Meaning V) (s : Search V) → SearchLaws m s → ((v : V) → s.may_differ v ≡ false) → ⊥
