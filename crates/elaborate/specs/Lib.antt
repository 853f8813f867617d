pub mod Elaborate
pub mod Whole
pub mod Values
pub mod Tabled
