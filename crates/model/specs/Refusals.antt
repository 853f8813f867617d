-- Which layer refuses with which number.
use Rattle.std.specs.Prelude.{ℕ, cond, nat_lt}
use Rattle.model.specs.declared.refusal.Layer.{Layer}
use Rattle.model.specs.declared.refusal.Layer.TheVariants.{Host, Text, Statement, Netlist}
use Rattle.model.specs.declared.refusal.Refusal.{Refusal}

-- 2 to 4 are of the text, 5 to 9 of its statements, 10 to 13 of the netlist
abbrev pub layer_of : ℕ → Layer
layer_of n = cond (nat_lt n 2) Host (cond (nat_lt n 5) Text (cond (nat_lt n 10) Statement Netlist))

abbrev pub refusal : ℕ → ℕ → Refusal
refusal n k = record { number = n; line = k; layer = layer_of n }
