pub mod Forms
pub mod Longest
pub mod Slices
pub mod Gaps
pub mod Cutting
pub mod OnePiece
pub mod OneReading
pub mod Written
