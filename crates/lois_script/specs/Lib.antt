pub mod Tree
pub mod View
pub mod Lists
pub mod Grammar
pub mod Limits
pub mod Scope
