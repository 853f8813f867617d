use Rattle.std.proofs.Common.{ℕ, List, Bool, length, nat_lt, ap, ◌∙◌, rules}
use Rattle.std.specs.List.{list_any}
use borrow.Author.Tests.{tests}
use Rattle.std.proofs.lemmas.Iterator.Search.{any_from_yields_List}
use Rattle.text.specs.Tokens.{names_left}
use Rattle.text.proofs.Handed.{names_handed_out}
use Rattle.text.proofs.Told.{any_of_long}
use Rattle.text.proofs.shape.has_long_name.Goals as goal

pub returns : goal.returns
returns c =
    let long : List ℕ → Bool = λ n. nat_lt 16 (length n) in
    any_from_yields_List long c.any.new.self _ c.any.result c.any.ensures.ran (names_handed_out c.names.result) (λ x b q k. search (rules, tests)) ∙ ap (list_any long) c.names.ensures.left ∙ any_of_long (names_left c.args.cursor)
