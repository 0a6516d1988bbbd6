pub mod Faults
pub mod Witnesses
pub mod Inclusions
pub mod WordText
