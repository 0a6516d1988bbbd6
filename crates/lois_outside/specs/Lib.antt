pub mod Faults
pub mod Calls
pub mod GivenBytes
pub mod Reading
pub mod Consumed
pub mod Writing
pub mod Memory
pub mod Standard
