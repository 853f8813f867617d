pub mod Finite
pub mod PairFacts
pub mod Words
pub mod Table
pub mod OneLane
pub mod DecidedLanes
pub mod ShutOut
