use Rattle.std.proofs.Common.{sym, refl}
use Rattle.grammar.specs.Scan.{scan}
use Rattle.grammar.proofs.Answered.{no_statement_from}
use Rattle.grammar.proofs.Meaning.{silent}
use Rattle.text.specs.Windows.{bytes}
use Rattle.text.proofs.Told.{nothing_left, told, long_told}
use Rattle.text.proofs.shape.read_text.Goals as goal

pub returns-then-ended : goal.returns-then-ended
returns-then-ended c =
    silent (bytes c.args.line) (nothing_left (scan (bytes c.args.line)) (sym c.if-ended.ensures))

pub returns-in_default : goal.returns-in_default
returns-in_default c = (refl, no_statement_from (bytes c.args.line) c.in_default.ensures.says)

pub returns-then-has_long_name : goal.returns-then-has_long_name
returns-then-has_long_name c =
    (refl, long_told (bytes c.args.line) c.in-Some.shape c.in-Some.ensures.says (sym c.if-has_long_name.ensures))

pub returns : goal.returns
returns c =
    told c.args.line c.in-Some.shape c.in-Some.ensures.says c.in-Some.ensures.placed (sym c.if-has_long_name.ensures)
