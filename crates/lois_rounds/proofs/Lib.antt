pub mod Counts
pub mod Measures
pub mod Runs
