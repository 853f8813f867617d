mod Joined
pub mod Rest
