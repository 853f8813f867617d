pub mod Marks
pub mod Tables
pub mod Walking
pub mod Turns
pub mod Circle
pub mod Whole
pub mod Listing
