pub mod Parted
pub mod OneCase
pub mod Excluded
pub mod Patterns
pub mod FewCases
