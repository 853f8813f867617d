pub mod Five
pub mod FiveAlgebraLemmas
