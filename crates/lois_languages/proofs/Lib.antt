pub mod LineFaults
pub mod WordCases
pub mod InclusionCases
