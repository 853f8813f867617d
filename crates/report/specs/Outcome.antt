-- What a write into a buffer makes of it.
use Rattle.std.specs.Prelude.{◌≡◌, ℕ, ◌<◌, List, ◌++◌, length, drop, Ok, Err, Result}
use Rattle.report.specs.declared.short.ShortBuffer.{ShortBuffer}

-- the bytes at the start of the buffer, what stood behind them as it was, and how many they are
abbrev pub Placed : List ℕ → List ℕ → ℕ → List ℕ → Type 0
Placed text before n after = (n ≡ length text) × (after ≡ text ++ drop n before)

-- the same; or the buffer is shorter than the bytes, and nothing changes
abbrev pub Written : List ℕ → List ℕ → Result ℕ ShortBuffer → List ℕ → Type 0
Written text before (Ok n) after = Placed text before n after
Written text before (Err _) after = (length before < length text) × (after ≡ before)
