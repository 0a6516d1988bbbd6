pub mod Words
pub mod CommandLine
pub mod Outcomes
pub mod Answers
pub mod Causes
pub mod Laws
