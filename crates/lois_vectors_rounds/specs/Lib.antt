pub mod Worked
pub mod WorkedLaw
