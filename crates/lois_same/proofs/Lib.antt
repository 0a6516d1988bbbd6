pub mod SetMembers
pub mod OtherValues
pub mod SameLines
pub mod SameCases
pub mod Distinct
pub mod TextEnds
pub mod Flaws
pub mod StrictMembers
