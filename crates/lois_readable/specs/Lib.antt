pub mod Joined
pub mod Parts
pub mod Readable
pub mod Strengthened
