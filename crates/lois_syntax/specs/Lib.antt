pub mod Refusals
pub mod Laws
pub mod Causes
