use Rattle.std.proofs.Common.{rules}
use Rattle.vector_file.proofs.Splits.{numbers_small}
use Rattle.vector_file.proofs.numbers.numbers_length.Goals as goal

pub sum-requires-clause-fits : goal.sum-requires-clause-fits
sum-requires-clause-fits c = let s = numbers_small c.args.numbers.now c.type_inv.numbers in search rules

pub returns-clause-small : goal.returns-clause-small
returns-clause-small c = let s = numbers_small c.args.numbers.now c.type_inv.numbers in search rules
