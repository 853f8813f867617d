use Rattle.std.proofs.Common.{◌+◌, ◌-◌, length, drop, ap, arith, ◌∙◌, rules}
use borrow.Author.Tests.{tests}
use Rattle.std.proofs.lemmas.Iterator.{YieldsList-from_slice}
use Rattle.std.proofs.lemmas.Iterator.Consumers.{count_from_yields_List}
use Rattle.std.proofs.lemmas.Iterator.Search.{YieldsList-from_take_while}
use Rattle.std.proofs.lemmas.List.Folds.{length-prefix_len}
use Rattle.std.proofs.lemmas.List.{take_all, length-drop}
use Rattle.std.specs.Iterator.Adapters.{take_while_source}
use Rattle.std.specs.Slice.Iter.{iter_rest}
use Rattle.text.proofs.ends.end_of.Goals as goal

pub returns-clause-passed : goal.returns-clause-passed
returns-clause-passed g c p h =
    let tail = drop c.args.at c.args.text.now in
    let whole = take_all (length c.args.text.now - c.args.at) tail (simp length-drop (omega arith)) in
    let source = YieldsList-from_slice {s = take_while_source c.take_while.result} tail (ap iter_rest c.take_while.ensures.source ∙ c.iter.ensures.rest ∙ whole) in
    ap (λ n. c.args.at + n) (count_from_yields_List c.take_while.result c.count.result c.count.ensures.ran (YieldsList-from_take_while _ p source c.take_while.ensures.closure c.take_while.ensures.done (λ x b q k. search (rules, tests, h))) ∙ length-prefix_len p tail)
