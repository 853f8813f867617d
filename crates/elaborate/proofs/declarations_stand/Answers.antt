use Rattle.elaborate.proofs.Answer.{one_answer}
use Rattle.elaborate.proofs.LineValues.{names_have_their_lines_values}
use Rattle.elaborate.proofs.declarations_stand.Goals as goal

pub returns : goal.returns
returns c = record { values = names_have_their_lines_values; answers = one_answer }
