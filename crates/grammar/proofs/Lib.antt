pub mod Pieces
pub mod Meaning
pub mod Once
pub mod LineEnds
pub mod Answered
pub mod Properly
pub mod Props
