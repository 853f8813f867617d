pub mod Pair
pub mod PairAlgebraLemmas
