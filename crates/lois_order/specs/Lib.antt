pub mod Cubes
pub mod Equations
pub mod Bounds
