pub mod Places
pub mod FreeNames
pub mod CommandWords
pub mod Texts
pub mod NoResults
pub mod ResultsRead
pub mod Calls
pub mod Sources
