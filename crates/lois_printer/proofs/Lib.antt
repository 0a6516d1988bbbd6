pub mod Fitting
pub mod Guarded
pub mod Written
