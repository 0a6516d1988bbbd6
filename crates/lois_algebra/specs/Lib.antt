pub mod Sets
pub mod Parts
pub mod Selected
pub mod Gathered
