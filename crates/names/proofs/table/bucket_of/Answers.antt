use Rattle.std.proofs.Common.{rules}
use Rattle.names.proofs.Chains.{hash_all}
use Rattle.names.proofs.table.bucket_of.Goals as goal

pub returns-clause-value : goal.returns-clause-value
returns-clause-value c = search (rules, hash_all)
