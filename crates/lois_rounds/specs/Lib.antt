pub mod Families
pub mod Equivalences
pub mod Rounds
