pub mod Minimal
pub mod Classes
pub mod Ties
