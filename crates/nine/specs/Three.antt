-- Three-valued logic: 0, 1, and X for either bit.
use Rattle.std.specs.Prelude.{ℕ, zero, suc, Bool, true, cond, not}
use Rattle.nine.specs.declared.three.Three.{Three}
use Rattle.nine.specs.declared.three.Three.TheVariants.{Zero, One, X}

abbrev pub digit : Three → ℕ
digit Zero = 0
digit One = 1
digit X = 2

abbrev pub three : ℕ → Three
three zero = Zero
three (suc zero) = One
three (suc (suc n)) = X

-- the bits that it stands for
abbrev pub may : Three → Bool → Bool
may Zero b = not b
may One b = b
may X b = true

abbrev pub known : Bool → Three
known b = cond b One Zero

abbrev pub not3 : Three → Three
not3 Zero = One
not3 One = Zero
not3 X = X

-- 0 if either is 0, 1 if both are 1
abbrev pub and3 : Three → Three → Three
and3 Zero y = Zero
and3 One y = y
and3 X Zero = Zero
and3 X One = X
and3 X X = X

-- 1 if either is 1, 0 if both are 0
abbrev pub or3 : Three → Three → Three
or3 Zero y = y
or3 One y = One
or3 X Zero = X
or3 X One = One
or3 X X = X

-- X if either is X
abbrev pub xor3 : Three → Three → Three
xor3 Zero y = y
xor3 One y = not3 y
xor3 X y = X
