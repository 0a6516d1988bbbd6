pub mod Ranks
pub mod Numberings
