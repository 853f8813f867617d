pub mod Three
pub mod Nine
pub mod NineValues
