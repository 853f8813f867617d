pub mod Path
pub mod Orders
