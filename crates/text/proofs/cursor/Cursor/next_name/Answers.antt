use borrow.Author.Tests.{tests}
use Rattle.std.proofs.Common.{rules}
use Rattle.text.proofs.Found.{name_found}
use Rattle.text.proofs.cursor.Cursor.next_name.Goals as goal

pub returns : goal.returns
returns c =
    name_found _ _ (λ a r q k. search (rules, tests)) (λ p x r q k. search (rules, tests)) c.args.self.now c.find_map.new.self c.find_map.result _ c.find_map.ensures.ran c.find_map.ensures.runs
