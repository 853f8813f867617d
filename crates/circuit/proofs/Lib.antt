pub mod Settle
pub mod Tested
pub mod Fit
pub mod Formed
pub mod Readers
