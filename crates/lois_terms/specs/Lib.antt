pub mod Shifted
pub mod Guarded
pub mod Collections
pub mod Binding
pub mod Hash
pub mod Shapes
pub mod Positions
