-- The lines, byte by byte.
use Rattle.std.specs.Prelude.{ℕ, List, ◌++◌, codes, decimal}
use Rattle.model.specs.declared.refusal.Layer.{Layer}
use Rattle.model.specs.declared.refusal.Layer.TheVariants.{Host, Text, Statement, Netlist}
use Rattle.model.specs.declared.refusal.Refusal.{Refusal}
use Rattle.model.specs.declared.counts.Counts.{Counts}

-- the layers as they are written
abbrev pub layer_word_of : Layer → List ℕ
layer_word_of Host = codes "host"
layer_word_of Text = codes "text"
layer_word_of Statement = codes "statement"
layer_word_of Netlist = codes "netlist"

-- refused NUMBER line LINE LAYER
abbrev pub refusal_line_of : Refusal → List ℕ
refusal_line_of r =
    codes "refused " ++ decimal r.number ++ codes " line " ++ decimal r.line ++ codes " " ++ layer_word_of r.layer ++ codes "\n"

-- nets NETS inputs INPUTS outputs OUTPUTS pins PINS
abbrev pub counts_line_of : Counts → List ℕ
counts_line_of c =
    codes "nets " ++ decimal c.nets ++ codes " inputs " ++ decimal c.inputs ++ codes " outputs " ++ decimal c.outputs ++ codes " pins " ++ decimal c.pins ++ codes "\n"
