pub mod Inside
pub mod Separated
