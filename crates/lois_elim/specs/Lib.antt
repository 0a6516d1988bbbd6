pub mod Bound
pub mod Names
pub mod Turns
