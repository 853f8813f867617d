-- From what the loader finds to the refusals of the whole declarations.
use Rattle.std.proofs.Common.{◌≡◌, ℕ, List, [], map, length, Err, sym, ap, ◌∙◌, subst}
use Rattle.std.proofs.lemmas.List.{nil_from_length, length-map}
use Rattle.grammar.specs.Rules.{Declaration, nets, inputs, outputs, pins, pins_of, output_of}
use Rattle.elaborate.specs.Whole.{RefusedWhole, Rising}
use Rattle.elaborate.proofs.Refused.{refused_operand, refused_output}
use Rattle.netlist.specs.Resolved.{Covered}
use Rattle.netlist.specs.Building.{ResolvesAll}
use Rattle.netlist.specs.Laid.{FirstUndefined, LaysOut, ListsOut}
use Rattle.netlist.specs.declared.fault.LoadFault.{LoadFault}
use Rattle.netlist.specs.declared.fault.LoadFault.TheVariants as fault

module _ (ds : List Declaration) (rising : Rising ds) where
  operand_refused : (line : ℕ) → FirstUndefined pins_of ds line → RefusedWhole ds 10 line
  operand_refused line f =
      let u = f.undefined in
      subst (RefusedWhole ds 10) f.at_line (refused_operand ds rising f.place f.here u.0 f.inside f.stands u.1 u.2 f.defined)

  output_refused : (line : ℕ) → Covered (nets ds) (pins ds) → FirstUndefined output_of ds line → RefusedWhole ds 11 line
  output_refused line operands f =
      let u = f.undefined in
      subst (RefusedWhole ds 11) f.at_line (refused_output ds operands rising f.place f.here u.0 f.inside f.stands u.1 u.2 f.defined)

  pub laying_refused : (e : LoadFault) → LaysOut ds (Err e) → ResolvesAll ds (Err e)
  laying_refused fault.Memory h = tt
  laying_refused fault.FewCells h = h
  laying_refused (fault.Statement f) h = h
  laying_refused (fault.UndefinedOperand line) h = operand_refused line h
  laying_refused (fault.UndefinedOutput line) h = absurd h
  laying_refused fault.NoPort h = absurd h
  laying_refused (fault.Circle line) h = h

  pub listing_refused : Covered (nets ds) (pins ds) → (e : LoadFault) → ListsOut ds (Err e) → ResolvesAll ds (Err e)
  listing_refused operands fault.Memory h = tt
  listing_refused operands fault.FewCells h = h
  listing_refused operands (fault.Statement f) h = h
  listing_refused operands (fault.UndefinedOperand line) h = absurd h
  listing_refused operands (fault.UndefinedOutput line) h = output_refused line operands h
  listing_refused operands fault.NoPort h = absurd h
  listing_refused operands (fault.Circle line) h = h

pub no_inputs : (ds : List Declaration) (n : ℕ) → n ≡ 0 → n ≡ length (inputs ds) → inputs ds ≡ []
no_inputs ds n e f = nil_from_length (inputs ds) (sym f ∙ e)

pub no_outputs : (ds : List Declaration) (os : List ℕ) (f : List ℕ → ℕ) → length os ≡ 0 → os ≡ map f (outputs ds) → outputs ds ≡ []
no_outputs ds os f e g = nil_from_length (outputs ds) (sym (ap length g ∙ length-map (outputs ds) f) ∙ e)
