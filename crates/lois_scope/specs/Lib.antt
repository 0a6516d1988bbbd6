pub mod InScope
pub mod Breaks
pub mod Walks
pub mod Refusals
pub mod Causes
