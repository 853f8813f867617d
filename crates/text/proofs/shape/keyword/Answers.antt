use Rattle.std.proofs.Common.{◌≡◌, codes, rules}
use Rattle.std.proofs.lemmas.Slice.Eq.{text_from_reads}
use Rattle.grammar.proofs.Answered.{word_output}
use Rattle.text.proofs.shape.keyword.Goals as goal

pub returns-in-OUTPUT-clause-says : goal.returns-in-OUTPUT-clause-says
returns-in-OUTPUT-clause-says c =
    let e : c.args.word.now ≡ codes "OUTPUT" = search (rules, text_from_reads) in
    word_output c.args.word.now c.args.name.bytes.now e
