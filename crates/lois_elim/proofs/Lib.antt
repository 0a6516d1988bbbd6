pub mod Naming
pub mod Forcing
pub mod OnePoint
pub mod Truth
pub mod Steps
pub mod BoundDown
pub mod Turning
