pub use Rattle.lois_descent.specs.Descent
pub use Rattle.lois_descent.specs.Reading
pub use Rattle.lois_descent.specs.Refusals
pub mod Readable
pub mod Ahead
pub mod Nests
