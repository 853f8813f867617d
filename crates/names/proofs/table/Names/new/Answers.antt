use Rattle.std.proofs.Common.{map, vec_items, vec_len}
use Rattle.names.specs.Tables.{bytes_of}
use Rattle.names.proofs.Chains.{heads_none}
use Rattle.names.proofs.table.Names.new.Goals as goal

pub invariant_of-result-clause-heads : goal.invariant_of-result-clause-heads
invariant_of-result-clause-heads c =
    heads_none (map bytes_of (vec_items c.in_ok-names.names)) (vec_items c.in_ok-newest.newest) (vec_len c.in_ok-names.names) c.in_ok-names.ensures.len (c.in_ok-newest.ensures.items_if_clones_equal (λ y e. e))
