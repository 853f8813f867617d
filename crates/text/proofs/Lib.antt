mod Steps
mod Found
pub mod Handed
mod Lines
mod Told
pub mod Trims
