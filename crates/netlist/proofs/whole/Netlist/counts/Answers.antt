use Rattle.std.proofs.Common.{◌≡◌, ℕ, vec_items, sym, ◌∙◌}
use Rattle.std.proofs.lemmas.List.{length-map}
use Rattle.model.specs.declared.counts.Counts.{Counts}
use Rattle.circuit.specs.Tables.{cell_of}
use Rattle.netlist.proofs.whole.Netlist.counts.Goals as goal

counted : (i : ℕ) {a b c d e f : ℕ} → a ≡ b → c ≡ d → e ≡ f → ◌≡◌ {A = Counts} (record { nets = a; inputs = i; outputs = c; pins = e }) (record { nets = b; inputs = i; outputs = d; pins = f })
counted i p q r = cc

pub returns : goal.returns
returns c =
    let n = c.args.self.now in
    counted n.inputs (c.len.ensures ∙ n.nets.ok.0 ∙ sym (length-map (vec_items n.nets) (cell_of (vec_items n.pins)))) (c.len-2.ensures ∙ n.outputs.ok.0) (c.len-3.ensures ∙ n.pins.ok.0)
