pub mod Circuit
pub mod Circles
pub mod Listed
pub mod Tables
pub mod Computed
pub mod Readers
