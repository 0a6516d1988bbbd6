pub mod Distinguishing
pub mod Completed
pub mod SplitWords
pub mod Differing
pub mod Differences
pub mod Comparing
pub mod ComparedCases
pub mod DifferenceText
