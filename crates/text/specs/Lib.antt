pub mod Tokens
pub mod Windows
pub mod Faults
pub mod Shapes
