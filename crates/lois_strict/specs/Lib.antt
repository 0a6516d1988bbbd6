pub mod Literals
pub mod Split
