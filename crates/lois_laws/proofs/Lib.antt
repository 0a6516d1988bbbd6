pub mod SameWords
pub mod PrintedLines
pub mod CaseHere
pub mod Comparisons
pub mod Languages
pub mod Listed
pub mod Atoms
pub mod TwoRuns
