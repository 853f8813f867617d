use Rattle.std.proofs.Common.{ℕ, List, ap, ◌∙◌, subst, Bor}
use Rattle.std.proofs.lemmas.Result.{err_from_is_err_and}
use Rattle.text.specs.Windows.{PlacedIn}
use Rattle.grammar.specs.Reading.{too_long, in_lines, accepted, refused}
use Rattle.bench.specs.Faults.{statement_refusal}
use Rattle.bench.specs.SoFar.{declared}
use Rattle.bench.proofs.Steps.{goes_on, still_stand, stops_refused, stops_at_end}
use Rattle.bench.proofs.declarations.Declarations.read.Goals as goal

pub returns-in_err-check_length-clause-reads : goal.returns-in_err-check_length-clause-reads
returns-in_err-check_length-clause-reads c =
    let p = err_from_is_err_and c.from_residual.result c.from_residual.ensures.1 in
    rw (p.1, p.2, c.in_err-check_length.ensures.0) (too_long c.in_err-check_length.ensures.1)

pub loop-line-preserved : goal.loop-line-preserved
loop-line-preserved c =
    let given = c.in-Some.ensures.steps in
    let same = c.loop-line.invariant.2 in
    let Placed : List ℕ → Type 0 = λ text. PlacedIn text c.in-Some.line in (
      λ a es h. c.loop-line.invariant.0 a es (goes_on c.loop-line.line-iterator c.next.new.self c.in-Some.line c.loop-line.self c.read_line.new.self tt a es given c.in_ok-read_line.ensures h),
      λ h. still_stand c.args.text.now c.loop-line.self c.read_line.new.self c.in-Some.line tt (subst Placed same given.5) c.in_ok-read_line.ensures (c.loop-line.invariant.1 h),
      ap (λ (t : Bor (List ℕ)). t.now) given.3 ∙ same,
    )

pub returns-in_err-read_line-clause-reads : goal.returns-in_err-read_line-clause-reads
returns-in_err-read_line-clause-reads c =
    let p = err_from_is_err_and c.from_residual-in_err-read_line.result c.from_residual-in_err-read_line.ensures.1 in
    let f = c.in_err-read_line.field-0.0 in
    rw (p.1, p.2) (in_lines (refused (statement_refusal f)) (declared c.read_line.new.self) c.in_ok-check_length.ensures (c.loop-line.invariant.0 (refused (statement_refusal f)) (declared c.read_line.new.self) (stops_refused c.loop-line.line-iterator c.next.new.self c.in-Some.line c.loop-line.self c.read_line.new.self f c.in-Some.ensures.steps c.in_err-read_line.ensures)))

pub returns-clause-reads : goal.returns-clause-reads
returns-clause-reads c =
    in_lines accepted (declared c.loop-line.self) c.in_ok-check_length.ensures (c.loop-line.invariant.0 accepted (declared c.loop-line.self) (stops_at_end c.loop-line.line-iterator c.next.new.self c.loop-line.self c.in-None.ensures.steps))
