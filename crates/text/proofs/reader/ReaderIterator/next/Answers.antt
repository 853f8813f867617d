use borrow.Author.Tests.{tests}
use Rattle.std.proofs.Common.{rules, List, ◌∷◌, drop, sym, refl, ap, ◌∙◌, arith}
use Rattle.grammar.specs.Lines.{lines}
use Rattle.grammar.proofs.LineEnds.{no_lines}
use Rattle.std.proofs.lemmas.List.{drop_all}
use Rattle.text.proofs.Lines.{goes_on, line_read}
use Rattle.text.proofs.reader.ReaderIterator.next.Goals as goal

pub returns-then-at-text-clause-steps : goal.returns-then-at-text-clause-steps
returns-then-at-text-clause-steps c =
    (ap lines (drop_all c.args.self.now.at c.args.self.now.text.now c.if-at-text.true) ∙ no_lines, refl)

pub returns-clause-steps : goal.returns-clause-steps
returns-clause-steps c =
    let text = c.args.self.now.text.now in
    let next = c.min-self.result in
    let end = c.end_of-end.ensures.passed goes_on (λ b r h. search (rules, tests)) in
    let read = line_read text c.args.self.now.at c.end_of-end.result next c.if-at-text.false end c.min-self.ensures in (
      read ∙ ap (λ (l : List _). l ∷ lines (drop next text)) (sym (c.line-window.ensures.rest ∙ c.trimmed_end.ensures.trims)),
      refl,
      refl,
      refl,
      omega (arith, c.min-self.ensures, c.end_of-end.ensures.within, c.if-at-text.false),
      c.line-window.ensures.places,
    )
