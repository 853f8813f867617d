-- How long pieces are, one behind the other.
use Rattle.std.proofs.Common.{◌≡◌, ℕ, List, length, Bor}
use Rattle.std.specs.List.{sum_by}
use Rattle.std.proofs.lemmas.List.Concat.{length-flat_map}
use Rattle.report.specs.Pieces.{joined}

pub joined_length : (pieces : List (Bor (List ℕ))) → length (joined pieces) ≡ sum_by (λ p. length p.now) pieces
joined_length pieces = length-flat_map (λ p. p.now) pieces
