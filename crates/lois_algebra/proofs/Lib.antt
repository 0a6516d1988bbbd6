pub mod Among
pub mod Unions
pub mod Selections
pub mod GatheredMembers
pub mod Deep
pub mod PartsAt
