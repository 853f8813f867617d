pub mod Packed
pub mod PackedAlgebraLemmas
