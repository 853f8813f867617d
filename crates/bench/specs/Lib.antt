pub mod Faults
pub mod Statements
pub mod SoFar
