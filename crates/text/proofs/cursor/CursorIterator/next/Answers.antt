use Rattle.std.proofs.Common.{◌≡◌, ℕ, [], ◌-◌, take, drop, sym, refl, ap, ◌∙◌, arith}
use Rattle.std.proofs.lemmas.List.{length-take-le, length-drop}
use Rattle.grammar.specs.Grammar.{is_blank_byte, is_name_character}
use Rattle.grammar.specs.Scan.{scan}
use Rattle.text.proofs.Steps.{skipped, ended, commented, sign_found, name_at}
use Rattle.text.proofs.cursor.CursorIterator.next.Goals as goal
use Rattle.text.proofs.cursor.CursorIterator.next.Goals.{then-start-text-via-then-start-text, then-start-text-via-else-start-text+then-text-start-eq35}

pub returns-then-start-text-clause-steps : goal.returns-then-start-text-clause-steps
returns-then-start-text-clause-steps c =
    let text = c.args.self.now.text.now in
    let start = c.end_of-start.result in
    let none : scan (drop start text) ≡ [] = elim c.then-start-text.branch [ then-start-text-via-then-start-text w ↦ ended text start w.if-start-text.true | then-start-text-via-else-start-text+then-text-start-eq35 w ↦ commented text start w.if-start-text.false w.if-text-start-eq35.true ] in
    (skipped text c.args.self.now.at start (c.end_of-start.ensures.passed is_blank_byte (λ b r h. h)) ∙ none, refl)

pub returns-then-end-start-clause-steps : goal.returns-then-end-start-clause-steps
returns-then-end-start-clause-steps c =
    let text = c.args.self.now.text.now in
    let at = c.args.self.now.at in
    let start = c.end_of-start.result in
    let blanks = c.end_of-start.ensures.passed is_blank_byte (λ b r h. h) in
    let bytes = c.end_of-end.ensures.passed is_name_character (λ b r h. h) in
    (skipped text at start blanks ∙ sign_found text at start c.if-start-text.false blanks (sym c.if-end-start.true ∙ bytes) c.if-text-start-eq35.false, (refl, omega (arith, c.end_of-start.ensures.within), omega (arith, c.if-start-text.false)))

pub returns-clause-steps : goal.returns-clause-steps
returns-clause-steps c =
    let text = c.args.self.now.text.now in
    let start = c.end_of-start.result in
    let end = c.end_of-end.result in
    let blanks = c.end_of-start.ensures.passed is_blank_byte (λ b r h. h) in
    let bytes = c.end_of-end.ensures.passed is_name_character (λ b r h. h) in
    let within = c.end_of-end.ensures.within in (
      skipped text c.args.self.now.at start blanks ∙ name_at text start end bytes c.if-end-start.false,
      (refl, omega (arith, c.end_of-start.ensures.within, c.if-end-start.false, within), within.1),
      ap (λ (k : ℕ). take k (drop start text)) (length-take-le (end - start) (drop start text) (simp length-drop (omega (arith, within)))),
    )
